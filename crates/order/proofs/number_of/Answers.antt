use borrow.Author.Tests.{eq-eqb}
use Rattle.judged.specs.Order.{number_of}
use Rattle.judged.proofs.Orders.{number_other}
use Rattle.order.proofs.number_of.Goals as goal

pub returns-then-i-p : goal.returns-then-i-p
unfolding number_of
returns-then-i-p c = simp (eq-eqb _ _ c.if-i-p.true)

pub returns : goal.returns
returns c =
    let a = c.args in
    number_other a.index.now a.p a.k a.ahead a.i _ _ _ c.if-i-p.false c.number_at-own.ensures c.number_ahead-other.ensures c.max.ensures
