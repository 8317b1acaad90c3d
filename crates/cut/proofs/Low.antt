-- What the clock test finds: a process that is behind another's clock, or that the cut is consistent.
use mathlib.Core.Path.{◌≡◌, refl}
use mathlib.Core.Logic.{◌≢◌, ⊎_elim}
use mathlib.Core.Bool.{Bool, true, false, not, cond, ◌&&◌}
use mathlib.Core.List.{List}
use Prim.Native.Nat.{ℕ, ◌≤◌, ◌<◌}
use native.Mathlib.Omega.{arith}
use borrow.Author.Tests.{eqb-false, ne_eqb, leb-true, le-leb}
use lib.Dec.{eqb, leb}
use lib.ListN.{length}
use Rattle.model.proofs.Numbers.{never}
use Rattle.model.specs.Run.{Run}
use Rattle.model.specs.Cut.{at, IsCut, Consistent}
use Rattle.model.specs.Clocks.{Clocks, ByClock}
use Rattle.model.proofs.Lists.{le_or_lt}
use Rattle.model.proofs.Order.{consistent_by_clock}
use Rattle.run.specs.Said.{run_in}
use Rattle.run.specs.Index.{IndexHolds}
use Rattle.std.specs.Prelude.{Some, None}
use Rattle.cut.specs.Clocks.{if_behind, behind_of, too_low, InTable}
use Rattle.cut.proofs.First.{first_nobody, first_found}
use Rattle.transit.proofs.Stored.{processes_few, states_few}

module _ (clock : ℕ → ℕ → ℕ → ℕ) (cut : List ℕ) where
  -- process i is behind the clock of j's chosen state
  pub record Low (i j : ℕ) : Type 0 where
    pub process : i < length cut
    pub other : j < length cut
    pub apart : i ≢ j
    pub low : at cut i ≤ clock j (at cut j) i

  pub too_low_found : (i : ℕ) → too_low clock cut ≡ Some i → (j : ℕ) × Low i j
  unfolding too_low behind_of if_behind
  too_low_found i e =
      let (j, x, y, z) = first_found _ (length cut) 0 i e in
      let (i', u, v, g) = first_found _ (length cut) 0 i z in
      (j, one i' (omega arith) j (omega arith) (eqb i' j) refl (leb (at cut i') (clock j (at cut j) i')) refl g)
    where
      one : (k : ℕ) → k < length cut → (j : ℕ) → j < length cut → (x : Bool) → eqb k j ≡ x → (y : Bool) → leb (at cut k) (clock j (at cut j) k) ≡ y
          → cond (not x && y) (Some k) None ≡ Some i → Low i j
      one k h j q true a y b g = never (cc)
      one k h j q false a false b g = never (cc)
      one k h j q false a true b g =
          let same : k ≡ i = cc in
          rw (← same) (record { process = h; other = q; apart = eqb-false k j a; low = leb-true _ _ b })

  pub too_low_nobody : too_low clock cut ≡ None → (i j : ℕ) → i < length cut → j < length cut → i ≢ j → clock j (at cut j) i < at cut i
  unfolding too_low behind_of if_behind
  too_low_nobody e i j p q n =
      let a = first_nobody _ (length cut) 0 e j (omega arith) (omega arith) in
      let b = first_nobody _ (length cut) 0 a i (omega arith) (omega arith) in
      ⊎_elim (λ h. absurd (clash (not (eqb i j) && leb (at cut i) (clock j (at cut j) i)) (simp (ne_eqb i j n) (le-leb (at cut i) (clock j (at cut j) i) h)) b)) (λ h. h) (le_or_lt (at cut i) (clock j (at cut j) i))
    where
      clash : (t : Bool) → t ≡ true → cond t (Some i) None ≡ None → ⊥
      clash true e g = never (cc)
      clash false e g = never (cc)

  -- nobody is found exactly where the cut is consistent
  module _ (r : Run) (rule : Clocks r clock) (is : IsCut r cut) where
    pub nobody_by_clock : too_low clock cut ≡ None → ByClock r clock cut
    unfolding ByClock
    nobody_by_clock e i j p q n = too_low_nobody e i j (omega (arith, is.size)) (omega (arith, is.size)) n

    pub nobody_low : too_low clock cut ≡ None → Consistent r cut
    nobody_low e = (consistent_by_clock r clock cut rule is).1 (nobody_by_clock e)

    pub somebody_low : (i : ℕ) → too_low clock cut ≡ Some i → ¬ Consistent r cut
    unfolding ByClock
    somebody_low i e ok =
        let (j, w) = too_low_found i e in
        let h = (consistent_by_clock r clock cut rule is).0 ok i j (omega (arith, is.size, w.process)) (omega (arith, is.size, w.other)) w.apart in
        omega (arith, w.low)

-- a cut of an accepted run has its entries in the index
pub cut_in_table : {s ix : List ℕ} → IndexHolds s ix → (cut : List ℕ) → IsCut (run_in s) cut → InTable cut
cut_in_table w cut is = record {
  few = omega (arith, is.size, processes_few w);
  counted = λ j h. (is.states j (omega (arith, is.size))).counted;
  there = λ j h. states_few w (is.states j (omega (arith, is.size)));
}
