-- What a channel clause is tested by.
use Rattle.std.specs.Prelude.{◌≡◌, List, ℕ, ◌≤◌, length}
use Rattle.model.specs.Cut.{in_transit}
use Rattle.run.specs.Said.{run_in}
use Rattle.condition.specs.declared.Test.{Test}
use Rattle.transit.specs.Asked.{Asked}

-- a linear clause about a channel, and how many messages are in transit there
pub record CountKnown (s cut : List ℕ) (clause : Test) (n : ℕ) : Type 0 where
  pub asked : Asked s cut clause.channel
  pub some : 1 ≤ clause.test
  pub linear : clause.test ≤ 7
  pub count : n ≡ length (in_transit (run_in s) cut clause.channel)
