-- What the numbers of a list add up to: one more at a place, and bounds.
use mathlib.Core.Path.{◌≡◌}
use mathlib.Core.List.{List, [], ◌∷◌}
use Prim.Native.Nat.{ℕ, zero, suc, ◌+◌, ◌*◌, ◌≤◌, ◌<◌}
use native.Mathlib.Omega.{arith}
use lib.ListN.{length, get_or, set}
use Rattle.model.specs.Total.{total}

pub total-set : (l : List ℕ) (i : ℕ) → i < length l → total (set l i (get_or l i 0 + 1)) ≡ total l + 1
unfolding total
total-set [] i h = absurd (omega arith)
total-set (x ∷ l) zero h = omega arith
total-set (x ∷ l) (suc i) h = omega (arith, total-set l i (omega arith))

pub total_few : (l : List ℕ) → ((i : ℕ) → i < length l → get_or l i 0 ≤ 512) → total l ≤ 512 * length l
unfolding total
total_few [] w = omega arith
total_few (x ∷ l) w = omega (arith, w 0 (omega arith), total_few l (λ i h. w (suc i) (omega arith)))

pub total_below : (l m : List ℕ) → ((i : ℕ) → get_or l i 0 ≤ get_or m i 0) → total l ≤ total m
unfolding total
total_below [] m w = omega arith
total_below (x ∷ l) [] w = omega (arith, w 0, total_below l [] (λ i. w (suc i)))
total_below (x ∷ l) (y ∷ m) w = omega (arith, w 0, total_below l m (λ i. w (suc i)))
