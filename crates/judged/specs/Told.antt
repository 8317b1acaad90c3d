-- What the parts of a public call are given of an accepted run.
use Rattle.std.specs.Prelude.{◌≡◌, List, ℕ}
use Rattle.record.specs.Record.{head_of}
use Rattle.record.specs.declared.Head.{Head}
use Rattle.run.specs.Index.{IndexHolds}
use Rattle.judged.specs.Accepted.{RunAccepted}

-- its index and its head
pub record Told (s ix : List ℕ) (h : Head) : Type 0 where
  pub index : IndexHolds s ix
  pub accepted : RunAccepted s
  pub head : h ≡ head_of s
