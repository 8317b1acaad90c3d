-- `sweep` meets its contract. The invariant of its loop: the processes below p have had their turn.
use Rattle.judged.proofs.Orders.{swept_next}
use Rattle.order.proofs.sweep.Goals as goal

pub loop-p-preserved : goal.loop-p-preserved
loop-p-preserved c = swept_next _ _ _ _ _ _ _ _ _ _ c.loop-p-test.true c.loop-p.invariant c.advance-moved.ensures
