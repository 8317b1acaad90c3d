-- `step_beside` meets its contract: a record that is not refused is there to its end.
use native.Mathlib.Omega.{arith}
use mathlib.Core.Path.{◌≡◌}
use Rattle.std.proofs.Common.{rules}
use Rattle.record.specs.Refusal.{passed}
use Rattle.record.specs.Record.{check_opening, check_step}
use Rattle.record.proofs.Laws.{opened, step_opened}
use Rattle.record.proofs.reading.step_beside.Goals.{In_ok-at_fault}
use Rattle.record.proofs.reading.step_beside.Goals as goal

right : (c : In_ok-at_fault) → check_opening c.args.run.now c.args.at ≡ passed
right c = let e : check_step c.args.run.now c.args.at ≡ passed = search (rules) in step_opened _ _ e

pub u16_at-requires : goal.u16_at-requires
u16_at-requires c = let o = opened _ _ (right c) in omega (arith, o.frame.long, o.frame.whole)

pub overflow_add-next : goal.overflow_add-next
overflow_add-next c =
    let o = opened _ _ (right (goal.at.overflow_add-next c).In_ok-at_fault) in
    record { fits = omega (arith, c.u16_at.ensures, o.frame.long, o.frame.whole) }

pub record_at-record-requires : goal.record_at-record-requires
record_at-record-requires c = (c.requires, right (goal.at.record_at-record-requires c).In_ok-at_fault)
