-- Reading a condition beside an accepted run's head: the first refusal, or the places of its clauses in file order.
use Rattle.std.specs.Prelude.{Bool, true, false, List, [], ◌∷◌, ◌++◌, ℕ, ◌-◌}
use Rattle.model.specs.Clause as M
use Rattle.record.specs.Pass.{Read, places_in, Pass, read_file}
use Rattle.record.specs.declared.File.TheVariants.{Condition}
use Rattle.record.specs.declared.Head.{Head}
use Rattle.condition.specs.declared.Item.{Item}
use Rattle.condition.specs.declared.Item.TheVariants as I
use Rattle.condition.specs.Clauses.{clauses_of}
use Rattle.condition.specs.Items.{step_at}
use Rattle.condition.specs.Judge.{check_item}

abbrev pub is_end : Item → Bool
is_end (I.Head clauses) = false
is_end (I.Clause c) = false
is_end I.End = true

-- the places of the clauses so far, with this record
abbrev pub more : Item → ℕ → List ℕ → List ℕ
more (I.Head clauses) at qs = qs
more (I.Clause c) at qs = qs ++ (at ∷ [])
more I.End at qs = qs

-- how many clauses are owed behind this record
abbrev pub owing : Item → ℕ → ℕ
owing (I.Head clauses) owed = clauses
owing (I.Clause c) owed = owed - 1
owing I.End owed = owed

-- what is known along the pass: how many clauses are owed, and the places of those so far
abbrev pub condition_pass : List ℕ → Head → Pass Item (ℕ × List ℕ)
condition_pass s h =
    record { file = Condition; bytes = s; start = (0, []); places = λ k. k.1; is_end = is_end; more = λ r at k. (owing r k.0, more r at k.1); step = λ at k. step_at s at k.0; judge = λ at k r. check_item h r }

unfoldable pub read_of : List ℕ → Head → Read
read_of s h = read_file (condition_pass s h)

-- the clauses that a file's bytes say
unfoldable pub clauses_in : List ℕ → Head → List M.Clause
clauses_in s h = clauses_of s (places_in (read_of s h))
