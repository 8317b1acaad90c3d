-- What the parts of a public call are given beside an accepted run: its index, and an accepted condition with the places of its clauses.
use Rattle.std.specs.Prelude.{◌≡◌, List, ℕ}
use Rattle.record.specs.Record.{head_of}
use Rattle.run.specs.Index.{IndexHolds}
use Rattle.record.specs.Pass.{places_in}
use Rattle.condition.specs.Read.{read_of}
use Rattle.condition.specs.Accepted.{ConditionAccepted}

pub record Prepared (s c ix qs : List ℕ) : Type 0 where
  pub index : IndexHolds s ix
  pub condition : ConditionAccepted s c
  pub places : qs ≡ places_in (read_of c (head_of s))
