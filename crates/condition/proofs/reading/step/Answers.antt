-- `step` meets its contract: a record that is not refused is there to its end.
use native.Mathlib.Omega.{arith}
use mathlib.Core.Path.{sym, ◌∙◌}
use Rattle.record.proofs.Laws.{not_faulty}
use Rattle.condition.proofs.Laws.{ItemOpened, item_opened}
use Rattle.condition.proofs.reading.step.Goals.{In_ok-at_fault}
use Rattle.condition.proofs.reading.step.Goals as goal

right : (c : In_ok-at_fault) → ItemOpened c.args.cond.now c.args.at c.args.owed
right c = item_opened _ _ _ (sym c.check_step.ensures ∙ not_faulty _ _ _ _ (sym c.at_fault.ensures ∙ c.in_ok-at_fault.was))

pub u16_at-requires : goal.u16_at-requires
u16_at-requires c = let o = right (goal.at.u16_at-requires c).In_ok-at_fault in omega (arith, o.frame.long, o.frame.whole)

pub overflow_add-next : goal.overflow_add-next
overflow_add-next c =
    let o = right (goal.at.overflow_add-next c).In_ok-at_fault in
    record { fits = omega (arith, c.u16_at.ensures, o.frame.long, o.frame.whole) }
