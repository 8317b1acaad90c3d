-- The run that a file's bytes say.
use Rattle.std.specs.Prelude.{List, ℕ, ◌+◌, ◌-◌, ◌*◌, get_or}
use Rattle.model.specs.Run.{Run}
use Rattle.record.specs.Bytes.{u16_at}
use Rattle.record.specs.Layout.{value_count, value_place}
use Rattle.record.specs.Pass.{places_in}
use Rattle.states.specs.States.{places_of, run_of}
use Rattle.run.specs.Read.{read_of}

-- the places of the state records in file order; none of a file that the pass refuses
unfoldable pub states_of : List ℕ → List ℕ
states_of s = places_in (read_of s)

-- the run that the bytes say
unfoldable pub run_in : List ℕ → Run
run_in s = run_of s (states_of s)

-- the byte place of state k of process p
abbrev pub place_of : List ℕ → ℕ → ℕ → ℕ
place_of s p k = get_or (places_of s (states_of s) p) (k - 1) 0

-- the number that the record of state k of process p has in place i of its clock
abbrev pub recorded_clock : List ℕ → ℕ → ℕ → ℕ → ℕ
recorded_clock s p k i = u16_at s (place_of s p k + value_place value_count + 2 * i)
