-- When a condition is accepted beside a run.
use Rattle.std.specs.Prelude.{◌≡◌, List, ℕ, Ok}
use Rattle.record.specs.Record.{head_of}
use Rattle.record.specs.Pass.{places_in}
use Rattle.condition.specs.Read.{read_of}

abbrev pub ConditionAccepted : List ℕ → List ℕ → Type 0
ConditionAccepted s c = read_of c (head_of s) ≡ Ok (places_in (read_of c (head_of s)))
