-- What a question about a channel at a cut is given beside an accepted run with its index.
use Rattle.std.specs.Prelude.{List, ℕ, ◌<◌}
use Rattle.model.specs.Cut.{IsCut}
use Rattle.record.specs.Record.{head_of}
use Rattle.run.specs.Said.{run_in}

-- one of the run's cuts, one of its channels
pub record Asked (s cut : List ℕ) (channel : ℕ) : Type 0 where
  pub is_cut : IsCut (run_in s) cut
  pub there : channel < (head_of s).channels
