-- Words of the contracts of the inner functions; the promises don't use them.
use Rattle.std.specs.Prelude.{◌≡◌, List, ℕ, ◌≤◌, length, replicate}
use Rattle.model.specs.Run.{processes}
use Rattle.record.specs.Record.{head_of}
use Rattle.run.specs.Said.{run_in}
use Rattle.judged.specs.Accepted.{RunAccepted}
use Rattle.search.specs.Prepared.{Prepared}

-- what the search is given: an accepted run, an accepted condition, a row of ones to move in, and a lent place for each process
pub record Searching (s c ix qs row lent : List ℕ) : Type 0 where
  pub accepted : RunAccepted s
  pub prepared : Prepared s c ix qs
  pub ones : row ≡ replicate (processes (run_in s)) 1
  pub room : (head_of s).processes ≤ length lent
