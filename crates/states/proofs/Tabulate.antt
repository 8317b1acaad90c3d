-- Laws of lists that a function makes: tabulate, f 0 to f (n - 1), and map.
use mathlib.Core.Path.{◌≡◌, refl, ap}
use mathlib.Core.List.{List, [], ◌∷◌, map}
use Prim.Native.Nat.{ℕ, zero, suc, ◌<◌}
use native.Mathlib.Omega.{arith}
use lib.ListN.{length, get_or}
use Rattle.states.specs.States.{tabulate}

pub tabulate-length : {A : Type 0} (n : ℕ) (f : ℕ → A) → length (tabulate n f) ≡ n
unfolding tabulate
tabulate-length zero f = refl
tabulate-length (suc n) f = ap suc (tabulate-length n (λ k. f (suc k)))

pub tabulate-at : {A : Type 0} (n : ℕ) (f : ℕ → A) (i : ℕ) (d : A) → i < n → get_or (tabulate n f) i d ≡ f i
unfolding tabulate
tabulate-at zero f i d h = absurd (omega arith)
tabulate-at (suc n) f zero d h = refl
tabulate-at (suc n) f (suc i) d h = tabulate-at n (λ k. f (suc k)) i d (omega arith)

-- an entry of a mapped list that is there
pub map_at : {A B : Type 0} (f : A → B) (l : List A) (k : ℕ) (d : A) (e : B) → k < length l → get_or (map f l) k e ≡ f (get_or l k d)
map_at f [] k d e h = absurd (omega arith)
map_at f (x ∷ l) zero d e h = refl
map_at f (x ∷ l) (suc k) d e h = map_at f l k d e (omega arith)
