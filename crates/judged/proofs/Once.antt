-- The judging's contract allows one answer.
use Rattle.std.proofs.Common.{Result, Err}
use Rattle.record.specs.declared.Refusal.{Refusal}
use Rattle.record.specs.declared.Head.{Head}
use mathlib.Core.Path.{◌≡◌, refl, ap}
use mathlib.Core.List.{List}
use Prim.Native.Nat.{ℕ}
use native.Mathlib.Omega.{arith}
use Rattle.model.proofs.Numbers.{never}
use Rattle.record.specs.Refusal.{refusal}
use Rattle.record.specs.declared.reasons.Reason.TheVariants.{Pairing, Circle, Clock}
use Rattle.record.specs.declared.File.TheVariants.{Run}
use Rattle.judged.specs.Judged.{Judged, FirstAt, Faultless}
use Rattle.judged.specs.Judged.Judged.{by_pass, by_pairing, by_circle, by_clock, wholly}

module _ (s : List ℕ) where
  pub first_one : {Fault : ℕ → ℕ → Type 0} {x y : ℕ} → FirstAt s Fault x → FirstAt s Fault y → x ≡ y
  first_one v w =
      omega (arith, v.place, w.place, v.first w.process w.state w.there w.fault, w.first v.process v.state v.there v.fault)

  -- a first fault is somewhere
  somewhere : {Fault : ℕ → ℕ → Type 0} {x : ℕ} → Faultless s Fault → FirstAt s Fault x → ⊥
  somewhere n w = n w.process w.state w.there w.fault

  pub judged_one : {a b : Result Head Refusal} → Judged s a → Judged s b → a ≡ b
  judged_one (by_pass x e) (by_pass y d) = ap Err (let z : x ≡ y = cc in z)
  judged_one (by_pass x e) (by_pairing y d w) = never (cc)
  judged_one (by_pass x e) (by_circle y d n w) = never (cc)
  judged_one (by_pass x e) (by_clock y d n m w) = never (cc)
  judged_one (by_pass x e) (wholly d n m o) = never (cc)
  judged_one (by_pairing x e w) (by_pass y d) = never (cc)
  judged_one (by_pairing x e w) (by_pairing y d v) = ap (λ x. Err (refusal Run Pairing x)) (first_one w v)
  judged_one (by_pairing x e w) (by_circle y d n v) = absurd (somewhere n w)
  judged_one (by_pairing x e w) (by_clock y d n m v) = absurd (somewhere n w)
  judged_one (by_pairing x e w) (wholly d n m o) = absurd (somewhere n w)
  judged_one (by_circle x e n w) (by_pass y d) = never (cc)
  judged_one (by_circle x e n w) (by_pairing y d v) = absurd (somewhere n v)
  judged_one (by_circle x e n w) (by_circle y d m v) = ap (λ x. Err (refusal Run Circle x)) (first_one w v)
  judged_one (by_circle x e n w) (by_clock y d m o v) = absurd (somewhere o w)
  judged_one (by_circle x e n w) (wholly d m o u) = absurd (somewhere o w)
  judged_one (by_clock x e n m w) (by_pass y d) = never (cc)
  judged_one (by_clock x e n m w) (by_pairing y d v) = absurd (somewhere n v)
  judged_one (by_clock x e n m w) (by_circle y d o v) = absurd (somewhere m v)
  judged_one (by_clock x e n m w) (by_clock y d o u v) = ap (λ x. Err (refusal Run Clock x)) (first_one w v)
  judged_one (by_clock x e n m w) (wholly d o u v) = absurd (somewhere v w)
  judged_one (wholly e n m o) (by_pass y d) = never (cc)
  judged_one (wholly e n m o) (by_pairing y d v) = absurd (somewhere n v)
  judged_one (wholly e n m o) (by_circle y d u v) = absurd (somewhere m v)
  judged_one (wholly e n m o) (by_clock y d u t v) = absurd (somewhere o v)
  judged_one (wholly e n m o) (wholly d u t v) = refl
