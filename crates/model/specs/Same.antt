-- Runs that agree up to a cut, for the third demand.
use Rattle.std.specs.Prelude.{◌≡◌, List, ℕ, take}
use Rattle.model.specs.Run.{Run, processes, history}
use Rattle.model.specs.Cut.{at}

-- the same stations and channels, and the same states up to the cut
pub record SameUpTo (cut : List ℕ) (r s : Run) : Type 0 where
  pub channels : r.channels ≡ s.channels
  pub processes : processes r ≡ processes s
  pub states : (i : ℕ) → take (at cut i) (history r i) ≡ take (at cut i) (history s i)
