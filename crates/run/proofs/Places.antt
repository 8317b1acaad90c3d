-- The states of a process among the places in file order: where each stands, and which number it has.
use mathlib.Core.Path.{◌≡◌, refl, ap}
use mathlib.Core.Bool.{Bool, true, false, cond}
use mathlib.Core.List.{List, [], ◌∷◌}
use Prim.Native.Nat.{ℕ, zero, suc, ◌≤◌, ◌<◌}
use native.Mathlib.Omega.{arith}
use borrow.Author.Tests.{eqb-true, eq-eqb}
use lib.Dec.{eqb}
use lib.ListN.{length, get_or, take}
use Rattle.record.specs.Record.{state_fields_at}
use Rattle.states.specs.States.{places_of}

-- a place in front of others, if it is kept
abbrev pub put : Bool → ℕ → List ℕ → List ℕ
put keep q qs = cond keep (q ∷ qs) qs

-- state j + 1 of process p stands at record i of the file
pub record StandsAt (s qs : List ℕ) (p j i : ℕ) : Type 0 where
  pub there : i < length qs
  pub place : get_or qs i 0 ≡ get_or (places_of s qs p) j 0
  pub process : (state_fields_at s (get_or qs i 0)).process ≡ p
  pub number : length (places_of s (take i qs) p) ≡ j

-- each state of a process stands somewhere
pub stands : (s qs : List ℕ) (p j : ℕ) → j < length (places_of s qs p) → (i : ℕ) × StandsAt s qs p j i
unfolding places_of
stands s [] p j h = absurd (omega arith)
stands s (q ∷ qs) p j h = go (eqb (state_fields_at s q).process p) refl j (stands s qs p) h
  where
    go : (t : Bool) → eqb (state_fields_at s q).process p ≡ t → (j : ℕ) → ((j : ℕ) → j < length (places_of s qs p) → (i : ℕ) × StandsAt s qs p j i)
        → j < length (put t q (places_of s qs p)) → (i : ℕ) × StandsAt s (q ∷ qs) p j i
    go true e zero rest h = (0, record { there = omega arith; place = simp e; process = eqb-true _ p e; number = refl })
    go true e (suc j) rest h =
        let (i, w) = rest j (omega arith) in
        (suc i, record { there = omega (arith, w.there); place = simp e w.place; process = w.process; number = simp e (ap suc w.number) })
    go false e j rest h =
        let (i, w) = rest j h in
        (suc i, record { there = omega (arith, w.there); place = simp e w.place; process = w.process; number = simp e w.number })

-- and each record of the file is a state of its process
pub numbered : (s qs : List ℕ) (i p : ℕ) → i < length qs → (state_fields_at s (get_or qs i 0)).process ≡ p
    → (length (places_of s (take i qs) p) < length (places_of s qs p)) × (get_or (places_of s qs p) (length (places_of s (take i qs) p)) 0 ≡ get_or qs i 0)
unfolding places_of
numbered s [] i p h e = absurd (omega arith)
numbered s (q ∷ qs) zero p h e = simp (eq-eqb _ p e) (omega arith, refl)
numbered s (q ∷ qs) (suc i) p h e = go (eqb (state_fields_at s q).process p) (numbered s qs i p (omega arith) e)
  where
    go : (t : Bool)
        → (length (places_of s (take i qs) p) < length (places_of s qs p)) × (get_or (places_of s qs p) (length (places_of s (take i qs) p)) 0 ≡ get_or qs i 0)
        → (length (put t q (places_of s (take i qs) p)) < length (put t q (places_of s qs p)))
        × (get_or (put t q (places_of s qs p)) (length (put t q (places_of s (take i qs) p))) 0 ≡ get_or qs i 0)
    go true w = (omega (arith, w.0), w.1)
    go false w = w

-- more records have at least as many states of a process
pub places_grow : (s qs : List ℕ) (i j p : ℕ) → i ≤ j → length (places_of s (take i qs) p) ≤ length (places_of s (take j qs) p)
unfolding places_of
places_grow s qs zero j p h = omega arith
places_grow s qs (suc i) zero p h = absurd (omega arith)
places_grow s [] (suc i) (suc j) p h = omega arith
places_grow s (q ∷ qs) (suc i) (suc j) p h = go (eqb (state_fields_at s q).process p) (places_grow s qs i j p (omega arith))
  where
    go : (t : Bool) → length (places_of s (take i qs) p) ≤ length (places_of s (take j qs) p)
        → length (put t q (places_of s (take i qs) p)) ≤ length (put t q (places_of s (take j qs) p))
    go true h = omega arith
    go false h = h
