-- Clauses, who has to move, and the first satisfying cut.
use Rattle.std.specs.Prelude.{Bool, true, false, not, ◌&&◌, ◌||◌, cond, ℕ, ◌%◌, ◌≤◌, ℤ, pos, T, leb, ltb, eqb, length, get_or}
use mathlib.Core.List.{List, [], ◌∷◌, Memᴰ}
use Rattle.std.specs.Int.Signed.{le_z}
use Rattle.model.specs.declared.Message.{Message}
use Rattle.model.specs.declared.Mover.{Mover}
use Rattle.model.specs.declared.Mover.TheVariants.{Sender, Receiver, NotLinear}
use Rattle.model.specs.Run.{Run, state}
use Rattle.model.specs.Cut.{at, IsCut, Consistent, in_transit}

module _ {A : Type 0} where
  abbrev pub some_of : (A → Bool) → List A → Bool
  some_of f [] = false
  some_of f (x ∷ xs) = f x || some_of f xs

  abbrev pub every_of : (A → Bool) → List A → Bool
  every_of f [] = true
  every_of f (x ∷ xs) = f x && every_of f xs

abbrev pub same_z : ℤ → ℤ → Bool
same_z x y = le_z x y && le_z y x

-- local comparisons 1 to 4, signed
pub data Comparison : Type 0 where
  equal other at_most at_least : Comparison

abbrev pub compares : Comparison → ℤ → ℤ → Bool
compares equal v x = same_z v x
compares other v x = not (same_z v x)
compares at_most v x = le_z v x
compares at_least v x = le_z x v

-- channel tests 1 to 9: c is unsigned, x signed
pub data Test : Type 0 where
  count_at_most count_at_least count_is : (c : ℕ) → Test
  stamp_is no_stamp_is every_at_least some_at_most : (x : ℤ) → Test
  count_odd : Test
  count_other : (c : ℕ) → Test

-- true when
abbrev pub passes : Test → List Message → Bool
passes (count_at_most c) ms = leb (length ms) c
passes (count_at_least c) ms = leb c (length ms)
passes (count_is c) ms = eqb (length ms) c
passes (stamp_is x) ms = some_of (λ m. same_z m.stamp x) ms
passes (no_stamp_is x) ms = every_of (λ m. not (same_z m.stamp x)) ms
passes (every_at_least x) ms = every_of (λ m. le_z x m.stamp) ms
passes (some_at_most x) ms = some_of (λ m. le_z m.stamp x) ms
passes count_odd ms = eqb (length ms % 2) 1
passes (count_other c) ms = not (eqb (length ms) c)

-- if false where n messages are in transit, who has to move
abbrev pub mover : Test → ℕ → Mover
mover (count_at_most c) n = Receiver
mover (count_at_least c) n = Sender
mover (count_is c) n = cond (ltb n c) Sender Receiver
mover (stamp_is x) n = Sender
mover (no_stamp_is x) n = Receiver
mover (every_at_least x) n = Receiver
mover (some_at_most x) n = Sender
mover count_odd n = NotLinear
mover (count_other c) n = NotLinear

pub data Clause : Type 0 where
  local : (process value : ℕ) → Comparison → ℤ → Clause
  on : (channel : ℕ) → Test → Clause

-- the clause holds at the cut
unfoldable pub holds : Run → List ℕ → Clause → Bool
holds r cut (local i v o x) = compares o (get_or (state r i (at cut i)).values v (pos 0)) x
holds r cut (on c t) = passes t (in_transit r cut c)

-- the cut is consistent and every clause holds there
pub record Satisfies (r : Run) (cond : List Clause) (cut : List ℕ) : Type 0 where
  pub is_cut : IsCut r cut
  pub consistent : Consistent r cut
  pub clauses : (k : Clause) → Memᴰ k cond → T (holds r cut k)

-- at or below every satisfying cut in each place
pub record First (r : Run) (cond : List Clause) (cut : List ℕ) : Type 0 where
  pub satisfies : Satisfies r cond cut
  pub least : (d : List ℕ) → Satisfies r cond d → (i : ℕ) → at cut i ≤ at d i
