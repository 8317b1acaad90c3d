-- The sender's first k states have this in transit.
use Rattle.model.specs.Cut.{between}
use Rattle.run.specs.Said.{run_in}
use Rattle.transit.specs.Load.{LoadOf}
use Rattle.transit.proofs.scan.load_on.Given as goal

abbrev pub invariant-loop-k : goal.invariant-loop-k
invariant-loop-k l = LoadOf (between (run_in l.run.run) l.span.channel l.k l.span.received) l.load
