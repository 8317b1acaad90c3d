-- `sweep` meets its contract. The invariant of its loop: the processes below p have had their turn.
use Rattle.judged.specs.Order.{Swept}
use Rattle.order.proofs.sweep.Given as goal

abbrev pub invariant-loop-p : goal.invariant-loop-p
invariant-loop-p l = Swept l.run l.n l.p l.initial.done l.done l.index l.moved
