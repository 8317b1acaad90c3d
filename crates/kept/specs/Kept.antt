-- The two numbers of each channel that are kept while processes move.
use Rattle.std.specs.Prelude.{◌≡◌, Bool, false, List, ℕ, ◌≤◌, ◌<◌, length, get_or}
use Rattle.model.specs.declared.Message.{Message}
use Rattle.model.specs.Run.{Run, processes, count}
use Rattle.model.specs.Cut.{at, IsCut, in_transit}
use Rattle.model.specs.NotYetSent.{not_yet_sent}
use Rattle.run.specs.Said.{run_in}

-- the row has for each channel of the run how many of these messages there are
pub record EachCounted (r : Run) (messages : ℕ → List Message) (row : List ℕ) : Type 0 where
  pub room : length r.channels ≤ length row
  pub each : (c : ℕ) → c < length r.channels → get_or row c 0 ≡ length (messages c)

-- at the cut: how many are in transit, and how many are received but not yet sent
pub record CountsKept (r : Run) (cut counts unsent : List ℕ) : Type 0 where
  pub first : EachCounted r (in_transit r cut) counts
  pub second : EachCounted r (not_yet_sent r cut) unsent

-- one of the run's cuts, and a process that has a further state there
pub record MayMove (s cut : List ℕ) (p : ℕ) : Type 0 where
  pub is_cut : IsCut (run_in s) cut
  pub process : p < processes (run_in s)
  pub further : at cut p < count (run_in s) p

-- a message on channel c may be counted: both rows have the channel, and the number that changes can
pub record Countable (past : Bool) (c : ℕ) (own other : List ℕ) : Type 0 where
  pub in_own : c < length own
  pub in_other : c < length other
  pub room : get_or own c 0 < 65535
  pub some : past ≡ false → 1 ≤ get_or other c 0
