-- The front of a row of equal numbers, and of a row into which a cut was written.
use mathlib.Core.Path.{◌≡◌, refl, ap, ◌∙◌}
use mathlib.Core.List.{List, ◌∷◌}
use Prim.Native.Nat.{ℕ, zero, suc, ◌≤◌, ◌<◌}
use native.Mathlib.Omega.{arith}
use lib.ListN.{length, take, replicate}
use lib.Seq.{ext_get_or, get_or-take, length-take-le}
use Rattle.cut.specs.Listing.{Wrote}

pub take-replicate : (k n x : ℕ) → k ≤ n → take k (replicate n x) ≡ replicate k x
take-replicate zero n x h = refl
take-replicate (suc k) zero x h = absurd (omega arith)
take-replicate (suc k) (suc n) x h = ap (λ xs. x ∷ xs) (take-replicate k n x (omega arith))

pub take_written : {cut lent lent' : List ℕ} (n : ℕ) → n ≡ length cut → n ≤ length lent → Wrote cut lent lent' → take n lent' ≡ cut
take_written {cut} {lent} {lent'} n e h w = ext_get_or 0 (take n lent') cut (size ∙ e) (λ i g. let l : i < n = omega (arith, size) in get_or-take n lent' i 0 l ∙ w.front i (omega arith))
  where
    size : length (take n lent') ≡ n
    size = length-take-le n lent' (omega (arith, w.long))
