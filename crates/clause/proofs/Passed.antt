-- The channel tests by what is in transit: 1 to 3 by the number of messages, 6 and 7 by the lowest stamp, 4 and 5 by whether some message has the stamp.
use mathlib.Core.Path.{◌≡◌, refl, sym}
use mathlib.Core.Bool.{Bool, true, false, not, ◌&&◌, ◌||◌}
use mathlib.Core.List.{List, [], ◌∷◌}
use Prim.Native.Nat.{ℕ}
use lib.Dec.{leb, eqb}
use lib.ListN.{length}
use lib.Signed.{le_z}
use lib.IntN.{ℤ}
use Rattle.model.specs.declared.Message.{Message}
use Rattle.model.specs.Clause.{same_z, some_of, every_of, passes}
use Rattle.model.specs.LowestStamp.{LowestStamp}
use Rattle.model.proofs.LowestStamp.{every_by_lowest, some_by_lowest}
use Rattle.record.specs.Bytes.{signed}
use Rattle.condition.specs.Clauses.{test_of}

-- every one passes exactly if none fails
every_some : {A : Type 0} (f : A → Bool) (xs : List A) → every_of (λ x. not (f x)) xs ≡ not (some_of f xs)
every_some f [] = refl
every_some f (x ∷ xs) = go (f x) (every_some f xs)
  where
    go : (t : Bool) → every_of (λ x. not (f x)) xs ≡ not (some_of f xs) → (not t && every_of (λ x. not (f x)) xs) ≡ not (t || some_of f xs)
    go true e = refl
    go false e = e

module _ (x : ℕ) (ms : List Message) where
  -- ---- 1 to 3

  module _ (n : ℕ) (e : n ≡ length ms) where
    pub test_1 : {t : ℕ} → t ≡ 1 → leb n x ≡ passes (test_of t x) ms
    unfolding test_of
    test_1 d = rw (d, e) refl

    pub test_2 : {t : ℕ} → t ≡ 2 → leb x n ≡ passes (test_of t x) ms
    unfolding test_of
    test_2 d = rw (d, e) refl

    pub test_3 : {t : ℕ} → t ≡ 3 → eqb n x ≡ passes (test_of t x) ms
    unfolding test_of
    test_3 d = rw (d, e) refl

  -- ---- 4 and 5

  abbrev pub some_has : Bool
  some_has = some_of (λ m. same_z m.stamp (signed x)) ms

  pub test_4 : {t : ℕ} → t ≡ 4 → some_has ≡ passes (test_of t x) ms
  unfolding test_of
  test_4 d = rw d refl

  pub test_5 : {t : ℕ} → t ≡ 5 → not some_has ≡ passes (test_of t x) ms
  unfolding test_of
  test_5 d = rw d (sym (every_some (λ m. same_z m.stamp (signed x)) ms))

  -- ---- 6 and 7

  module _ {lowest : ℤ} (w : LowestStamp ms lowest) where
    pub test_6 : {t : ℕ} → t ≡ 6 → le_z (signed x) lowest ≡ passes (test_of t x) ms
    unfolding test_of
    test_6 d = rw d (sym (every_by_lowest w (signed x)))

    pub test_7 : {t : ℕ} → t ≡ 7 → le_z lowest (signed x) ≡ passes (test_of t x) ms
    unfolding test_of
    test_7 d = rw d (sym (some_by_lowest w (signed x)))
