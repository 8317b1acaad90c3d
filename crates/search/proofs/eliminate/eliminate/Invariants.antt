-- `eliminate` meets its contract. The invariant of its loop: the cut is one of the run, at or below every satisfying cut; the kept numbers are those of the
-- cut, in rows of the lengths they had. The measure is 4,096 less what the cut's numbers add up to.
use mathlib.Core.Path.{◌≡◌}
use Prim.Native.Nat.{◌-◌}
use lib.ListN.{length}
use Rattle.model.specs.Total.{total}
use Rattle.run.specs.Said.{run_in}
use Rattle.condition.specs.Clauses.{clauses_of}
use Rattle.kept.specs.Kept.{CountsKept}
use Rattle.search.specs.Search.{LowestCut}
use Rattle.search.proofs.eliminate.eliminate.Given as goal

abbrev pub invariant-loop-p : goal.invariant-loop-p
invariant-loop-p l =
    LowestCut (run_in l.sought.run) (clauses_of l.sought.cond l.sought.clauses) l.cut × CountsKept (run_in l.sought.run) l.cut l.counts l.unsent × (length l.counts ≡ length l.initial.counts) × (length l.unsent ≡ length l.initial.unsent)

abbrev pub decreases-loop-p : goal.decreases-loop-p
decreases-loop-p l = 4096 - total l.cut
