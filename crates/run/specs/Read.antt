-- Reading a run: the first refusal, or the places of its states in file order.
use Rattle.std.specs.Prelude.{Bool, true, false, List, [], ◌∷◌, ◌++◌, ℕ, length}
use Rattle.record.specs.Pass.{Read, Pass, read_file}
use Rattle.record.specs.Record.{step_at}
use Rattle.record.specs.declared.File.TheVariants.{Run}
use Rattle.record.specs.declared.Record.{Record}
use Rattle.record.specs.declared.Record.TheVariants as R
use Rattle.states.specs.States.{places_of, tabulate}
use Rattle.states.specs.Judge.{check_record}

-- how many states each process has among those at these places
unfoldable pub counts_of : List ℕ → List ℕ → List ℕ
counts_of s qs = tabulate 8 (λ p. length (places_of s qs p))

abbrev pub is_end : Record → Bool
is_end (R.Head h) = false
is_end (R.Channel l) = false
is_end (R.State f) = false
is_end R.End = true

-- the places of the states so far, with this record
abbrev pub more : Record → ℕ → List ℕ → List ℕ
more (R.Head h) at qs = qs
more (R.Channel l) at qs = qs
more (R.State f) at qs = qs ++ (at ∷ [])
more R.End at qs = qs

-- what is known along the pass: the places of the states so far
abbrev pub run_pass : List ℕ → Pass Record (List ℕ)
run_pass s =
    record { file = Run; bytes = s; start = []; places = λ qs. qs; is_end = is_end; more = more; step = λ at qs. step_at s at; judge = λ at qs r. check_record s (counts_of s qs) at r }

unfoldable pub read_of : List ℕ → Read
read_of s = read_file (run_pass s)
