-- When a run is accepted.
use Rattle.std.specs.Prelude.{Ok}
use Rattle.std.specs.Prelude.{List, ℕ}
use Rattle.record.specs.Record.{head_of}
use Rattle.judged.specs.Judged.{Judged}

abbrev pub RunAccepted : List ℕ → Type 0
RunAccepted s = Judged s (Ok (head_of s))
