-- `order_all` meets its contract. The invariant of its loop: what is done is clear of circles, with its clocks. The measure is 4,096 less what is done.
use Prim.Native.Nat.{◌-◌}
use Rattle.judged.specs.Order.{Ordering}
use Rattle.model.specs.Total.{total}
use Rattle.order.proofs.order_all.Given as goal

abbrev pub invariant-loop : goal.invariant-loop
invariant-loop l = Ordering l.run l.index l.done l.n

abbrev pub decreases-loop : goal.decreases-loop
decreases-loop l = 4096 - total l.done
