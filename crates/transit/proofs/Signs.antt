-- A signed number that is passed on is read back from its bits; and equality of signed numbers is at most both ways.
use mathlib.Core.Path.{◌≡◌, refl, ap, subst, ◌∙◌}
use mathlib.Core.Bool.{Bool, true, false, ◌&&◌}
use lib.Dec.{T}
use lib.IntN.{ℤ}
use lib.Signed.{le_z, ≤ℤ_refl}
use mir.Syntax.{w32}
use mir.Val.{SFits, of_z, to_z}
use mir.Facts.{to_z-of_z}
use Rattle.std.specs.Ordering.{int_eq}
use Rattle.std.proofs.lemmas.Bool.Decides.{same_from_decides, Decides-int_eq}
use Rattle.model.specs.Clause.{same_z}
use Rattle.model.proofs.LowestStamp.{le_z_antisym}
use Rattle.model.proofs.Numbers.{never, T_of}

pub both : {a b : ℤ} (f : ℤ → ℤ → Bool) → SFits w32 a → SFits w32 b → f (to_z w32 (of_z w32 a)) (to_z w32 (of_z w32 b)) ≡ f a b
both {a} {b} f p q = ap (λ (z : ℤ). f z (to_z w32 (of_z w32 b))) (to_z-of_z p) ∙ ap (f a) (to_z-of_z q)

same_both : (x y : ℤ) (a b : Bool) → le_z x y ≡ a → le_z y x ≡ b → (a && b) ≡ true → x ≡ y
same_both x y true true d e h = le_z_antisym x y (T_of d) (T_of e)
same_both x y true false d e h = never (cc)
same_both x y false b d e h = never (cc)

same_self : (x : ℤ) → same_z x x ≡ true
same_self x = go (le_z x x) (≤ℤ_refl x).le
  where
    go : (t : Bool) → T t → (t && t) ≡ true
    go true h = refl
    go false h = elim h [ ]

pub same_int : (x y : ℤ) → int_eq x y ≡ same_z x y
same_int x y = same_from_decides _ _ (Decides-int_eq x y) (same_both x y (le_z x y) (le_z y x) refl refl, λ e. subst (λ z. same_z x z ≡ true) e (same_self x))
