-- `read_records` meets its contract: each turn goes on with what is left, or ends as the pass does.
use native.Mathlib.Omega.{arith}
use mathlib.Core.Path.{◌≡◌, sym, ap, ◌∙◌}
use Rattle.std.proofs.Common.{rules, Ok, Err}
use Rattle.record.specs.Refusal.{passed, and_then}
use Rattle.record.proofs.Laws.{faulty, not_faulty}
use Rattle.record.proofs.Pass.{here_stopped, here_judged, here_end}
use Rattle.condition.specs.Items.{step_at}
use Rattle.condition.specs.Judge.{check_item}
use Rattle.condition.specs.Read.{is_end, condition_pass}
use Rattle.condition.proofs.Laws.{item_stepped}
use Rattle.condition.proofs.SoFar.{no_end, so_far_start, so_far_roomy, so_far_more, passed_refused, passed_end}
use Rattle.condition.proofs.pass.read_records.Goals.{In_ok-item, In_ok-at_fault}
use Rattle.condition.proofs.pass.read_records.Goals as goal

-- the record at the place, and that it is right
stepped : (c : In_ok-item) → step_at c.args.cond.now c.loop-item.at c.loop-item.owed ≡ Ok (c.in_ok-item.item, c.in_ok-item.next)
stepped c = sym c.step.ensures ∙ c.in_ok-item.was

right : (c : In_ok-at_fault) → check_item c.args.head c.in_ok-item.item ≡ passed
right c = sym c.check_item.ensures ∙ not_faulty _ _ _ _ (sym c.at_fault.ensures ∙ c.in_ok-at_fault.was)

pub loop-item-init : goal.loop-item-init
loop-item-init c = (c.requires.1, so_far_start _ _ _)

pub returns-in_err-item : goal.returns-in_err-item
returns-in_err-item c =
    let stopped : c.from_residual.result ≡ Err c.in_err-item.field-0.0 = search (rules) in
    let step : step_at c.args.cond.now c.loop-item.at c.loop-item.owed ≡ Err c.in_err-item.field-0.0 = sym c.step.ensures ∙ c.in_err-item.was in
    rw stopped (passed_refused _ _ (here_stopped (condition_pass _ _) c.loop-item.invariant.1.here _ step))

pub returns-in_err-at_fault : goal.returns-in_err-at_fault
returns-in_err-at_fault c =
    let stopped : c.from_residual-in_err-at_fault.result ≡ Err c.in_err-at_fault.field-0.0 = search (rules) in
    let (why, refused, refusal) = faulty _ _ _ _ (sym c.at_fault.ensures ∙ c.in_err-at_fault.was) in
    let item = stepped (goal.at.returns-in_err-at_fault c).In_ok-item in
    rw (stopped, refusal) (passed_refused _ _ (here_judged (condition_pass _ _) c.loop-item.invariant.1.here _ _ item why (sym c.check_item.ensures ∙ refused)))

pub returns-in_err-check_end : goal.returns-in_err-check_end
returns-in_err-check_end c =
    let stopped : c.from_residual-in_err-check_end.result ≡ Err c.in_err-check_end.field-0.0 = search (rules) in
    let item = stepped (goal.at.returns-in_err-check_end c).In_ok-item in
    let n = right (goal.at.returns-in_err-check_end c).In_ok-at_fault in
    let i = c.loop-item.invariant.1 in
    rw stopped (passed_refused _ _ (here_end (condition_pass _ _) i.here _ _ item n (ap is_end c.in-End.is)
    ∙ ap (λ x. and_then x (λ u. Ok i.clauses)) (sym c.check_end.ensures ∙ c.in_err-check_end.was)))

pub returns-in-End : goal.returns-in-End
returns-in-End c =
    let item = stepped (goal.at.returns-in-End c).In_ok-item in
    let n = right (goal.at.returns-in-End c).In_ok-at_fault in
    let i = c.loop-item.invariant.1 in
    passed_end _ _ _ i.row (here_end (condition_pass _ _) i.here _ _ item n (ap is_end c.in-End.is)
    ∙ ap (λ x. and_then x (λ u. Ok i.clauses)) (sym c.check_end.ensures ∙ c.in_ok-check_end.was))

pub owed_behind-behind-requires : goal.owed_behind-behind-requires
owed_behind-behind-requires c = so_far_roomy _ _ _ _ _ _ c.loop-item.invariant.1 _ _ (stepped (goal.at.owed_behind-behind-requires c).In_ok-item)

pub note-count-requires : goal.note-count-requires
note-count-requires c =
    let item = stepped (goal.at.note-count-requires c).In_ok-item in
    let i = c.loop-item.invariant in
    let d = item_stepped _ _ _ _ _ item in
    (i.0, so_far_roomy _ _ _ _ _ _ i.1 _ _ item, omega (arith, d.further, d.within, c.requires.0))

pub loop-item-smaller : goal.loop-item-smaller
loop-item-smaller c =
    let d = item_stepped _ _ _ _ _ (stepped (goal.at.loop-item-smaller c).In_ok-item) in omega (arith, d.further, d.within)

pub loop-item-preserved : goal.loop-item-preserved
loop-item-preserved c =
    let item = stepped (goal.at.loop-item-preserved c).In_ok-item in
    let n = right (goal.at.loop-item-preserved c).In_ok-at_fault in
    let i = c.loop-item.invariant in
    let w = so_far_more _ _ _ _ _ _ i.1 _ _ item n (no_end _ c.in_default.not-End) i.0 _ _ c.note-count.ensures in
    (c.note-count.auto.places ∙ i.0, rw c.owed_behind-behind.ensures w)
