-- Small laws of numbers and tests that many proofs use.
use mathlib.Core.Path.{◌≡◌, refl}
use mathlib.Core.Logic.{⊎_elim}
use mathlib.Core.Bool.{Bool, true, false, not, ◌||◌}
use Prim.Native.Nat.{ℕ, ◌+◌, ◌≤◌, ◌<◌}
use native.Mathlib.Nat.{eq-or-lt_of_le}
use native.Mathlib.Omega.{arith}
use borrow.Author.Tests.{eqb-true, eqb-false, ltb-true, ltb-false, not-true}
use lib.Dec.{T, eqb, ltb}

-- from what can't be: `cc` finds that two constructors would be equal
pub never : {A : Type 0} → ◌≡◌ {A = ℕ} 0 1 → A
never e = absurd (omega arith)

pub below : {x n : ℕ} → x < n + 1 → x ≤ n
below h = omega arith

pub positive : {n : ℕ} → (n ≡ 0 → ⊥) → 1 ≤ n
positive h = omega arith

-- what holds at n and of all below it holds of all below n + 1
pub below_next : (P : ℕ → Type 0) {x n : ℕ} → x < n + 1 → P n → (x < n → P x) → P x
below_next P h here before = ⊎_elim (λ e. rw e here) before (eq-or-lt_of_le (below h))

pub T_of : {b : Bool} → b ≡ true → T b
T_of e = rw e tt

pub not_T_of : {b : Bool} → b ≡ false → ¬ T b
not_T_of e t = rw e at t

pub denied : {t : Bool} → not t ≡ true → t ≡ true → ⊥
denied {t} d e = let f = not-true t d in never (cc (e, f))

-- ---- the test of a number that is 0 or past another

module _ (x y : ℕ) where
  pub none_or_past : (eqb x 0 || ltb y x) ≡ true → 1 ≤ x → x ≤ y → ⊥
  none_or_past e a b = go (eqb x 0) refl e
    where
      go : (t : Bool) → eqb x 0 ≡ t → (t || ltb y x) ≡ true → ⊥
      go true d e = omega (arith, eqb-true x 0 d)
      go false d e = omega (arith, ltb-true y x e)

  pub some-up-to : (eqb x 0 || ltb y x) ≡ false → (1 ≤ x) × (x ≤ y)
  some-up-to e = go (eqb x 0) refl e
    where
      go : (t : Bool) → eqb x 0 ≡ t → (t || ltb y x) ≡ false → (1 ≤ x) × (x ≤ y)
      go true d e = never (cc)
      go false d e = (positive (eqb-false x 0 d), ltb-false y x e)

  -- so it tells whatever holds exactly if the first is one of 1 to the second
  pub up_to_test : {t : Bool} → (T t → (1 ≤ x) × (x ≤ y)) → (1 ≤ x → x ≤ y → T t) → t ≡ not (eqb x 0 || ltb y x)
  up_to_test {t} a b = go t a b (eqb x 0 || ltb y x) refl
    where
      go : (t : Bool) → (T t → (1 ≤ x) × (x ≤ y)) → (1 ≤ x → x ≤ y → T t) → (u : Bool) → (eqb x 0 || ltb y x) ≡ u → t ≡ not u
      go true a b true e = let (p, q) = a tt in absurd (none_or_past e p q)
      go true a b false e = refl
      go false a b true e = refl
      go false a b false e = let (p, q) = some-up-to e in absurd (b p q)
