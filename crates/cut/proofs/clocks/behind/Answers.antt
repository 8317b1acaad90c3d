-- `behind` meets its contract: the first that passes the test, by the row of j's clock.
use Rattle.std.proofs.Common.{Some, None, below_more}
use native.Mathlib.Omega.{arith}
use mathlib.Core.Path.{◌≡◌, refl, ap, ◌∙◌}
use mathlib.Core.Bool.{true, false, not, ◌&&◌}
use mathlib.Core.List.{List}
use Prim.Native.Nat.{ℕ, ◌<◌}
use lib.Dec.{eqb, leb}
use lib.ListN.{length, get_or}
use Rattle.model.specs.Cut.{at}
use Rattle.run.specs.Index.{HasSlot}
use Rattle.run.proofs.Clocks.{clock_long, clock_part}
use Rattle.cut.specs.Clocks.{if_behind, behind_of, InTable}
use Rattle.cut.proofs.First.{first_sought}
use Rattle.cut.proofs.clocks.behind.Goals as goal

slot : (cut : List ℕ) (j : ℕ) → InTable cut → j < length cut → HasSlot j (at cut j)
slot cut j w h = record { process = omega (arith, w.few); counted = w.counted j h; few = w.there j h }

-- whether i passes, n being place i of j's clock
named : (clock : ℕ → ℕ → ℕ → ℕ) (cut : List ℕ) (j i : ℕ) {n : ℕ} → n ≡ clock j (at cut j) i → (not (eqb i j) && leb (at cut i) n) ≡ true → if_behind clock cut j i ≡ Some i
unfolding if_behind
named clock cut j i is e = rw (rw is at e) refl

passed_over : (clock : ℕ → ℕ → ℕ → ℕ) (cut : List ℕ) (j i : ℕ) {n : ℕ} → n ≡ clock j (at cut j) i → (not (eqb i j) && leb (at cut i) n) ≡ false → if_behind clock cut j i ≡ None
unfolding if_behind
passed_over clock cut j i is e = rw (rw is at e) refl

pub bounds-clock-i : goal.bounds-clock-i
bounds-clock-i c =
    let r = c.requires in
    omega (arith, r.1.few, c.loop-i-test.true, ap length c.clock_of-clock.ensures ∙ clock_long _ r.0 _ _ (slot _ _ r.1 r.2))

pub returns-then-i-j : goal.returns-then-i-j
unfolding behind_of
returns-then-i-j c =
    let r = c.requires in
    let h = c.loop-i-test.true in
    let told = ap (λ l. get_or l c.loop-i.i 0) c.clock_of-clock.ensures ∙ clock_part _ r.0 _ _ (slot _ _ r.1 r.2) _ (omega (arith, r.1.few, h)) in
    first_sought _ _ (Some c.loop-i.i) (c.loop-i.i, h, named _ _ _ _ told c.if-i-j.true, c.loop-i.invariant)

pub loop-i-preserved : goal.loop-i-preserved
loop-i-preserved c =
    let r = c.requires in
    let told = ap (λ l. get_or l c.loop-i.i 0) c.clock_of-clock.ensures ∙ clock_part _ r.0 _ _ (slot _ _ r.1 r.2) _ (omega (arith, r.1.few, c.loop-i-test.true)) in
    below_more _ _ c.loop-i.invariant (passed_over _ _ _ _ told c.if-i-j.false)

pub returns : goal.returns
unfolding behind_of
returns c = first_sought _ _ None (λ k h. c.loop-i.invariant k (omega (arith, c.loop-i-test.false)))
