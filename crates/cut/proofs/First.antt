-- The first that a search finds.
use mathlib.Core.Path.{◌≡◌, refl, sym, ap, ◌∙◌}
use mathlib.Core.Logic.{⊎_elim}
use Prim.Native.Nat.{ℕ, zero, suc, ◌+◌, ◌-◌, ◌≤◌, ◌<◌}
use native.Mathlib.Nat.{eq-or-lt_of_le}
use native.Mathlib.Numerals.{add-one}
use native.Mathlib.Omega.{arith}
use Rattle.model.proofs.Numbers.{never}
use Rattle.std.specs.Prelude.{Option, Some, None, MatchOption}
use Rattle.cut.specs.Clocks.{or_next, first_from}

module _ (f : ℕ → Option ℕ) where
  -- what is left of n from k on
  pub first_turn : (n k : ℕ) → k < n → f k ≡ None → first_from f (n - k) k ≡ first_from f (n - (k + 1)) (k + 1)
  unfolding first_from
  first_turn n k h e =
      let a : n - k ≡ suc (n - (k + 1)) = omega arith in
      let b : suc k ≡ k + 1 = omega arith in
      rw (a, e, b) refl

  pub first_stop : (n k p : ℕ) → k < n → f k ≡ Some p → first_from f (n - k) k ≡ Some p
  unfolding first_from
  first_stop n k p h e = let a : n - k ≡ suc (n - (k + 1)) = omega arith in rw (a, e) refl

  pub first_done : (n k : ℕ) → n ≤ k → first_from f (n - k) k ≡ None
  unfolding first_from
  first_done n k h = let a : n - k ≡ 0 = omega arith in rw a refl

  first_passed : (n k : ℕ) → k ≤ n → ((i : ℕ) → i < k → f i ≡ None) → first_from f n 0 ≡ first_from f (n - k) k
  first_passed n zero h w = let e : n - 0 ≡ n = omega arith in rw e refl
  first_passed n (suc k) h w =
      let turn = first_turn n k (omega arith) (w k (omega arith)) in
      first_passed n k (omega arith) (λ i g. w i (omega arith)) ∙ rw add-one at turn

  -- as a search that stops at the first has it
  pub first_sought : (n : ℕ) (r : Option ℕ) → MatchOption r ((i : ℕ) → i < n → f i ≡ None) (λ p. (k : ℕ) × (k < n) × (f k ≡ Some p) × ((i : ℕ) → i < k → f i ≡ None)) → r ≡ first_from f n 0
  first_sought n None w = sym (first_passed n n (omega arith) w ∙ first_done n n (omega arith))
  first_sought n (Some p) (k, h, e, w) = sym (first_passed n k (omega arith) w ∙ first_stop n k p h e)

  -- nobody is found: f names nobody
  pub first_nobody : (n k : ℕ) → first_from f n k ≡ None → (i : ℕ) → k ≤ i → i < k + n → f i ≡ None
  unfolding first_from
  first_nobody zero k e i p q = absurd (omega arith)
  first_nobody (suc n) k e i p q = go (f k) refl e (first_nobody n (suc k))
    where
      go : (v : Option ℕ) → f k ≡ v → or_next v (first_from f n (suc k)) ≡ None
          → (first_from f n (suc k) ≡ None → (i : ℕ) → suc k ≤ i → i < suc k + n → f i ≡ None) → f i ≡ None
      go None a e rest = ⊎_elim (λ z. ap f (sym z) ∙ a) (λ z. rest e i z (omega arith)) (eq-or-lt_of_le p)
      go (Some x) a e rest = never (cc)

  -- somebody is found: f names it
  pub first_found : (n k p : ℕ) → first_from f n k ≡ Some p → (i : ℕ) × (k ≤ i) × (i < k + n) × (f i ≡ Some p)
  unfolding first_from
  first_found zero k p e = never (cc)
  first_found (suc n) k p e = go (f k) refl e (first_found n (suc k) p)
    where
      go : (v : Option ℕ) → f k ≡ v → or_next v (first_from f n (suc k)) ≡ Some p
          → (first_from f n (suc k) ≡ Some p → (i : ℕ) × (suc k ≤ i) × (i < suc k + n) × (f i ≡ Some p)) → (i : ℕ) × (k ≤ i) × (i < k + suc n) × (f i ≡ Some p)
      go None a e rest = let (i, x, y, z) = rest e in (i, omega arith, omega arith, z)
      go (Some x) a e rest = (k, omega arith, omega arith, a ∙ e)
