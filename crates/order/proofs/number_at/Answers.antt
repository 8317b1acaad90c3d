use borrow.Author.Tests.{eq-eqb, ne_eqb}
use Rattle.judged.specs.Order.{number_at}
use Rattle.order.proofs.number_at.Goals as goal

pub returns-then-k-eq0 : goal.returns-then-k-eq0
unfolding number_at
returns-then-k-eq0 c = simp (eq-eqb _ 0 c.if-k-eq0.true)

pub returns : goal.returns
unfolding number_at
returns c = simp (ne_eqb _ 0 c.if-k-eq0.false) c.clock_at.ensures
