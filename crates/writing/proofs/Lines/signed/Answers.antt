-- `signed` meets its contract: a number below 0 is a minus and its size, any other its size.
use Rattle.std.proofs.Common.{◌≡◌, ℕ, ℤ, pos, negsuc, true, false, ◌∷◌, FitsSigned, w32, to_z, of_z, refl, ap, ◌∙◌, arith}
use Rattle.std.proofs.Math.IntN.{nat_abs}
use borrow.Author.Tests.{ltb-true}
use lib.Signed.{lt_z}
use mir.Facts.{to_z-of_z}
use Rattle.writing.specs.Text.{bytes, decimal, signed}
use Rattle.writing.proofs.Putting.{put_then, put_as}
use Rattle.writing.proofs.Lines.signed.Goals as goal
use Rattle.writing.proofs.Lines.signed.Goals.{then-x-lt0, else-x-lt0}

below : (z : ℤ) → lt_z z (pos 0) ≡ true → 45 ∷ decimal (nat_abs z) ≡ signed z
unfolding signed bytes
below (pos n) h = absurd (omega (arith, ltb-true n 0 h))
below (negsuc n) h = refl

above : (z : ℤ) → lt_z z (pos 0) ≡ false → decimal (nat_abs z) ≡ signed z
unfolding signed
above (pos n) h = refl
above (negsuc n) h = cc

-- the number as it is tested is the number
module _ (x : ℤ) (fits : FitsSigned w32 x) {n : ℕ} (size : n ≡ nat_abs (to_z w32 (of_z w32 x))) where
  negative : lt_z (to_z w32 (of_z w32 x)) (pos 0) ≡ true → 45 ∷ decimal n ≡ signed x
  negative h = rw size (below (to_z w32 (of_z w32 x)) h) ∙ ap signed (to_z-of_z fits)

  positive : lt_z (to_z w32 (of_z w32 x)) (pos 0) ≡ false → decimal n ≡ signed x
  positive h = rw size (above (to_z w32 (of_z w32 x)) h) ∙ ap signed (to_z-of_z fits)

pub returns : goal.returns
returns c =
    let put = put_then c.text.ensures c.number.ensures in
    let size = c.unsigned_abs.ensures.value in
    elim c.if-x-lt0.branch [
      | then-x-lt0 w ↦ put_as put (rw w.sign-is (negative c.args.x c.ranges.x size w.if-x-lt0.true))
      | else-x-lt0 w ↦ put_as put (rw w.sign-is (positive c.args.x c.ranges.x size w.if-x-lt0.false))
    ]
