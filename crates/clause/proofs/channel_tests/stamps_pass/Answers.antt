-- `stamps_pass` meets its contract: tests 4 and 5 by whether some message has the stamp, 6 and 7 by the load.
use borrow.Author.Rules.{sfits_of}
use mathlib.Core.Path.{◌≡◌, ap, ◌∙◌}
use mathlib.Core.Bool.{Bool, not}
use mathlib.Core.List.{List}
use Prim.Native.Nat.{ℕ}
use mir.Syntax.{w32}
use mir.Val.{SFits, to_z, of_z}
use mir.Facts.{to_z-of_z}
use lib.IntN.{ℤ}
use Rattle.model.specs.declared.Message.{Message}
use Rattle.model.specs.Clause.{some_of, same_z}
use Rattle.record.specs.Bytes.{signed}
use Rattle.clause.proofs.Passed.{some_has, test_4, test_5}
use Rattle.clause.proofs.channel_tests.stamps_pass.Goals as goal

-- the stamp that is sought comes back from its bits
sought : {r : Bool} {x : ℤ} (operand : ℕ) (ms : List Message) → r ≡ some_of (λ m. same_z m.stamp (to_z w32 (of_z w32 x))) ms → SFits w32 x → x ≡ signed operand
    → r ≡ some_has operand ms
sought operand ms d fits e = d ∙ ap (λ (y : ℤ). some_of (λ m. same_z m.stamp y) ms) (to_z-of_z fits ∙ e)

pub returns-in-4 : goal.returns-in-4
returns-in-4 c =
    sought _ _ c.has_stamp.ensures (sfits_of c.signed_of.type_inv) c.signed_of.ensures ∙ test_4 _ _ c.in-4.is

pub returns-in-5 : goal.returns-in-5
returns-in-5 c =
    ap not (sought _ _ c.has_stamp-in-5.ensures (sfits_of c.signed_of-in-5.type_inv) c.signed_of-in-5.ensures) ∙ test_5 _ _ c.in-5.is
