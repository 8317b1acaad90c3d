-- The bytes shown for an answer: those of the refused record, the run's empty front part where nothing is refused.
use Rattle.std.specs.Prelude.{List, ℕ, Result, Ok, Err}
use Rattle.record.specs.declared.Refusal.{Refusal}
use Rattle.reader.specs.declared.Part.{Part}
use Rattle.reader.specs.Shown.{front, part_of}
use Rattle.search.specs.declared.Outcome.{Outcome}

abbrev pub part_for : List ℕ → List ℕ → Result Outcome Refusal → Part
part_for run condition (Ok o) = front
part_for run condition (Err x) = part_of run condition x
