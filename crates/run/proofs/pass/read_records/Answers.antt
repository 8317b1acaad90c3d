-- `read_records` meets its contract: each turn goes on with what is left, or ends as the pass does.
use native.Mathlib.Omega.{arith}
use mathlib.Core.Path.{◌≡◌, sym, ap, ◌∙◌}
use lib.ListN.{take}
use Rattle.std.proofs.Common.{rules, Ok, Err}
use Rattle.record.specs.Record.{step_at}
use Rattle.record.specs.Refusal.{passed, and_then}
use Rattle.record.proofs.Laws.{faulty, not_faulty}
use Rattle.record.proofs.Pass.{here_stopped}
use Rattle.states.specs.Judge.{check_record}
use Rattle.run.specs.Read.{is_end, run_pass}
use Rattle.run.proofs.Indexing.{counts_eight}
use Rattle.run.proofs.Accepted.{record_stepped}
use Rattle.run.proofs.SoFar.{no_end, so_far_start, so_far_judged, so_far_end, so_far_roomy, so_far_more, passed_refused, passed_end}
use Rattle.run.proofs.pass.read_records.Goals.{In_ok-item, In_ok-at_fault}
use Rattle.run.proofs.pass.read_records.Goals as goal

-- the record at the place, and that it is right
stepped : (c : In_ok-item) → step_at c.args.run.now c.loop-item.at ≡ Ok (c.in_ok-item.item, c.in_ok-item.next)
stepped c = sym c.step_beside.ensures ∙ c.in_ok-item.was

right : (c : In_ok-at_fault) → check_record c.args.run.now (take 8 c.loop-item.index) c.loop-item.at c.in_ok-item.item ≡ passed
right c = sym c.check_record-check.ensures ∙ not_faulty _ _ _ _ (sym c.at_fault.ensures ∙ c.in_ok-at_fault.was)

pub loop-item-init : goal.loop-item-init
loop-item-init c = so_far_start _ _ c.requires.2

pub returns-in_err-item : goal.returns-in_err-item
returns-in_err-item c =
    let stopped : c.from_residual.result ≡ Err c.in_err-item.field-0.0 = search (rules) in
    let step : step_at c.args.run.now c.loop-item.at ≡ Err c.in_err-item.field-0.0 = sym c.step_beside.ensures ∙ c.in_err-item.was in
    rw stopped (passed_refused _ _ _ (here_stopped (run_pass _) c.loop-item.invariant.here _ step))

pub check_record-check-requires : goal.check_record-check-requires
check_record-check-requires c =
    let d = record_stepped _ _ _ _ (stepped (goal.at.check_record-check-requires c).In_ok-item) in
    let i = c.loop-item.invariant in
    let head = c.requires.1 in
    record { head = head; few = λ z. rw head (i.along.head z).few; eight = counts_eight c.loop-item.index i.long; opening = d.opening; item = d.item }

pub returns-in_err-at_fault : goal.returns-in_err-at_fault
returns-in_err-at_fault c =
    let stopped : c.from_residual-in_err-at_fault.result ≡ Err c.in_err-at_fault.field-0.0 = search (rules) in
    let (why, refused, refusal) = faulty _ _ _ _ (sym c.at_fault.ensures ∙ c.in_err-at_fault.was) in
    let step = stepped (goal.at.returns-in_err-at_fault c).In_ok-item in
    rw (stopped, refusal) (passed_refused _ _ _ (so_far_judged _ _ _ c.loop-item.invariant _ _ step why (sym c.check_record-check.ensures ∙ refused)))

pub returns-in_err-check_end : goal.returns-in_err-check_end
returns-in_err-check_end c =
    let stopped : c.from_residual-in_err-check_end.result ≡ Err c.in_err-check_end.field-0.0 = search (rules) in
    let p = (goal.at.returns-in_err-check_end c).In_ok-at_fault in
    let i = c.loop-item.invariant in
    rw stopped (passed_refused _ _ _ (so_far_end _ _ _ i _ _ (stepped (goal.at.returns-in_err-check_end c).In_ok-item) (right p) (ap is_end c.in-End.is)
    ∙ ap (λ x. and_then x (λ u. Ok i.states)) (sym c.check_end.ensures ∙ c.in_err-check_end.was)))

pub returns-in-End : goal.returns-in-End
returns-in-End c =
    let p = (goal.at.returns-in-End c).In_ok-at_fault in
    let i = c.loop-item.invariant in
    rw c.requires.1 (passed_end _ _ _ i.index i.fresh
    (so_far_end _ _ _ i _ _ (stepped (goal.at.returns-in-End c).In_ok-item) (right p) (ap is_end c.in-End.is) ∙ ap (λ x. and_then x (λ u. Ok i.states)) (sym c.check_end.ensures ∙ c.in_ok-check_end.was)))

pub note-requires : goal.note-requires
note-requires c =
    let i = c.loop-item.invariant in
    let item = stepped (goal.at.note-requires c).In_ok-item in
    (i.long, so_far_roomy _ _ _ i _ _ item (right (goal.at.note-requires c).In_ok-at_fault) (no_end _ c.in_default.not-End), omega (arith, i.here.within, c.requires.0))

pub loop-item-smaller : goal.loop-item-smaller
loop-item-smaller c =
    let d = record_stepped _ _ _ _ (stepped (goal.at.loop-item-smaller c).In_ok-item) in omega (arith, d.further, d.within)

pub loop-item-preserved : goal.loop-item-preserved
loop-item-preserved c =
    let item = stepped (goal.at.loop-item-preserved c).In_ok-item in
    let n = right (goal.at.loop-item-preserved c).In_ok-at_fault in
    so_far_more _ _ _ c.loop-item.invariant _ _ item n (no_end _ c.in_default.not-End) _ c.note.auto.index c.note.ensures
