-- `order_all` meets its contract. The invariant of its loop: what is done is clear of circles, with its clocks. The measure is 4,096 less what is done.
use Rattle.judged.proofs.Orders.{swept_less, ordered}
use Rattle.order.proofs.order_all.Goals as goal

pub loop-smaller : goal.loop-smaller
loop-smaller c = swept_less _ _ _ _ _ _ _ c.sweep.ensures c.loop-test.true

pub returns : goal.returns
returns c = let w = c.sweep.ensures in (ordered _ _ _ _ _ _ w c.loop-test.false, w.ordering.matched)
