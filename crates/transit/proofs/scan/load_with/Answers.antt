-- `load_with` meets its contract: one state more has a message in transit, or none.
use borrow.Author.Rules.{rules, sfits_of}
use Rattle.std.proofs.lemmas.Int.{ints}
use Rattle.model.proofs.Numbers.{T_of, not_T_of}
use mathlib.Core.Path.{◌≡◌, refl}
use native.Mathlib.Omega.{arith}
use mir.Syntax.{w32}
use mir.Val.{SFits}
use mir.Facts.{to_z-of_z}
use Rattle.model.proofs.LowestStamp.{lowest_first, lowest_next}
use Rattle.transit.specs.Load.LoadOf.{messages}
use Rattle.transit.specs.Waiting.{inside}
use lib.IntN.{ℤ}
use Rattle.std.specs.Int.Signed.{le_z, lt_z, lt_z_yes, lt_z_no, le_z_yes}
use Prim.Native.Nat.{◌+◌}
use mathlib.Core.Bool.{Bool, true, false, cond}
use Rattle.transit.proofs.Loads.{load_empty, load_messages}
use Rattle.transit.proofs.scan.load_with.Goals as goal

lower_is : (x y : ℤ) → cond (lt_z y x) y x ≡ cond (le_z x y) x y
lower_is x y = go (lt_z y x) refl (le_z x y) refl
  where
    go : (a : Bool) → lt_z y x ≡ a → (b : Bool) → le_z x y ≡ b → cond a y x ≡ cond b x y
    go true e true g = absurd (omega (arith, ints, lt_z_yes {a = y} {b = x} (T_of e), le_z_yes {a = x} {b = y} (T_of g)))
    go true e false g = refl
    go false e true g = refl
    go false e false g = absurd (not_T_of g (lt_z_no {a = y} {b = x} (rw e tt)).le)

pub returns-in_default : goal.returns-in_default
unfolding inside
returns-in_default c = λ ms w. rw c.in_default.is w

pub returns-in_default-load : goal.returns-in_default-load
unfolding inside
returns-in_default-load c =
    let fits : SFits w32 c.in-Some.message.stamp = search rules in
    λ ms w. rw (c.in-Some.is, load_empty w c.in_default-load.is, to_z-of_z fits) (messages refl (lowest_first _))

pub returns : goal.returns
unfolding inside
returns c =
    let fits : SFits w32 c.in-Some.message.stamp = search rules in
    let held : SFits w32 c.in-Some-load.load.lowest = search rules in
    λ ms w. rw (c.in-Some.is, to_z-of_z (sfits_of c.min.type_inv), c.min.ensures.value, to_z-of_z held, to_z-of_z fits, lower_is c.in-Some-load.load.lowest c.in-Some.message.stamp)
    (let told = load_messages w c.in-Some-load.is in messages {load = record { count = c.in-Some-load.load.count + 1; lowest = cond (le_z c.in-Some-load.load.lowest c.in-Some.message.stamp) c.in-Some-load.load.lowest c.in-Some.message.stamp }} (omega (arith, told.0)) (lowest_next _ told.1))
