-- What stands in a condition at a place: the record with the place after it, or else the refusal 2, 3, 2, 4, 3.
use Rattle.std.specs.Prelude.{Bool, not, cond, ◌||◌, List, ℕ, ◌+◌, eqb, Result, Ok}
use Rattle.record.specs.Bytes.{u16_at}
use Rattle.record.specs.Record.{length_at, kind_at, check_frame}
use Rattle.record.specs.Refusal.{Check, refuse_if, ◌then◌, at_fault, and_then}
use Rattle.record.specs.declared.reasons.Reason.TheVariants.{WrongLength, WrongKind}
use Rattle.record.specs.declared.Refusal.{Refusal}
use Rattle.record.specs.declared.File.TheVariants.{Condition}
use Rattle.condition.specs.declared.Item.{Item}
use Rattle.condition.specs.declared.Item.TheVariants as I
use Rattle.condition.specs.Clauses.{held_at}

-- the kind may stand at the place: the head, then the clauses that are owed, then the end
unfoldable pub due : ℕ → ℕ → ℕ → Bool
due at owed kind = cond (eqb at 0) (eqb kind 16) (cond (eqb owed 0) (eqb kind 4) (eqb kind 17 || eqb kind 18))

-- the length of a kind of a condition; 0 for any other kind
abbrev pub length_of : ℕ → ℕ
length_of kind = cond (eqb kind 4) 4 (cond (eqb kind 16) 6 (cond (eqb kind 17) 14 (cond (eqb kind 18) 12 0)))

unfoldable pub check_step : List ℕ → ℕ → ℕ → Check
check_step s at owed =
    check_frame s at
    then refuse_if (not (due at owed (kind_at s at))) WrongKind
    then refuse_if (not (eqb (length_at s at) (length_of (kind_at s at)))) WrongLength

unfoldable pub item_at : List ℕ → ℕ → Item
item_at s at =
    cond (eqb (kind_at s at) 16) (I.Head (u16_at s (at + 4)))
    (cond (eqb (kind_at s at) 4) I.End
    (I.Clause (held_at s at)))

unfoldable pub step_at : List ℕ → ℕ → ℕ → Result (Item × ℕ) Refusal
step_at s at owed = and_then (at_fault Condition at (check_step s at owed)) (λ u. Ok (item_at s at, at + length_at s at))
