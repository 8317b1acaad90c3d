-- The invariant of the loop of `read_records`: what is left to read from here gives the whole, and the index holds the states so far. The measure
-- is what is left of the file.
use Prim.Native.Nat.{◌-◌}
use lib.ListN.{length}
use Rattle.run.proofs.SoFar.{IndexSoFar}
use Rattle.run.proofs.pass.read_records.Given as goal

abbrev pub invariant-loop-item : goal.invariant-loop-item
invariant-loop-item l = IndexSoFar l.run l.index l.at

abbrev pub decreases-loop-item : goal.decreases-loop-item
decreases-loop-item l = length l.run - l.at
