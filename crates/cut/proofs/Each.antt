-- A test that passes at each of some numbers in a row.
use mathlib.Core.Path.{◌≡◌, refl}
use mathlib.Core.Logic.{⊎_elim}
use mathlib.Core.Bool.{Bool, true, false, ◌&&◌}
use Prim.Native.Nat.{ℕ, zero, suc, ◌+◌, ◌≤◌, ◌<◌}
use native.Mathlib.Nat.{eq-or-lt_of_le}
use native.Mathlib.Omega.{arith}
use Rattle.std.specs.List.{list_all, range_with_len}
use Rattle.model.proofs.Numbers.{never}

and_both : (a b : Bool) → (a && b) ≡ true → (a ≡ true) × (b ≡ true)
and_both true b e = (refl, e)
and_both false b e = never (cc)

module _ (t : ℕ → Bool) where
  pub each_passes : (n k : ℕ) → list_all t (range_with_len k n) ≡ true → (i : ℕ) → k ≤ i → i < k + n → t i ≡ true
  each_passes zero k e i h g = absurd (omega arith)
  each_passes (suc n) k e i h g =
      let (here, rest) = and_both (t k) (list_all t (range_with_len (k + 1) n)) e in
      ⊎_elim (λ d. rw (← d) here) (λ d. each_passes n (k + 1) rest i (omega arith) (omega arith)) (eq-or-lt_of_le h)

  pub passes_each : (n k : ℕ) → ((i : ℕ) → k ≤ i → i < k + n → t i ≡ true) → list_all t (range_with_len k n) ≡ true
  passes_each zero k w = refl
  passes_each (suc n) k w = rw (w k (omega arith) (omega arith)) (passes_each n (k + 1) (λ i h g. w i (omega arith) (omega arith)))
