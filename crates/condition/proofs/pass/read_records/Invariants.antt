-- The invariant of the loop of `read_records`: what is left to read from here gives the whole, and the row holds the places of the
-- clauses so far. The measure is what is left of the file.
use mathlib.Core.Path.{◌≡◌}
use Prim.Native.Nat.{◌-◌}
use lib.ListN.{length}
use Rattle.condition.proofs.SoFar.{RowSoFar}
use Rattle.condition.proofs.pass.read_records.Given as goal

abbrev pub invariant-loop-item : goal.invariant-loop-item
invariant-loop-item l = (length l.places ≡ 32) × RowSoFar l.cond l.head l.places l.at l.owed l.count

abbrev pub decreases-loop-item : goal.decreases-loop-item
decreases-loop-item l = length l.cond - l.at
