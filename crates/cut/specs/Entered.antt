-- What listing all channels is given, and a row of stamps with that of one channel entered: words of inner contracts.
use Rattle.std.specs.Prelude.{◌≡◌, List, Option, Some, None, ℕ, ℤ, set}
use Rattle.model.specs.Cut.{IsCut}
use Rattle.record.specs.Record.{head_of}
use Rattle.run.specs.Said.{run_in}
use Rattle.transit.specs.declared.Load.{Load}
use Rattle.cut.specs.Listing.{Room}

-- one of the run's cuts, all its channels, and a place for each of them in both rows
pub record Listable (s cut : List ℕ) (channels : ℕ) (counts : List ℕ) (stamps : List ℤ) : Type 0 where
  pub is_cut : IsCut (run_in s) cut
  pub all : channels ≡ (head_of s).channels
  pub room : Room channels counts stamps

unfoldable pub with_lowest : Option Load → ℕ → List ℤ → List ℤ
with_lowest None i stamps = stamps
with_lowest (Some load) i stamps = set stamps i load.lowest
