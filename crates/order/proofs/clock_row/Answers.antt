-- `clock_row` meets its contract. The invariant of its loop: the first i numbers of the clock are written, and nothing else.
use native.Mathlib.Omega.{arith}
use mathlib.Core.Path.{◌∙◌}
use Rattle.judged.proofs.Orders.{written_next}
use Rattle.order.proofs.clock_row.Goals as goal

pub loop-i-preserved : goal.loop-i-preserved
loop-i-preserved c =
    let r = c.requires in
    let i = c.loop-i.invariant in
    (c.enter_clock.auto.index ∙ i.0, rw c.enter_clock.ensures (written_next r.0 r.2 _ (omega (arith, r.1, c.loop-i-test.true)) _ i.0 i.1 _ c.number_of-number.ensures))
