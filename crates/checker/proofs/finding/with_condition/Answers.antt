-- `with_condition` meets its contract: the condition is refused, or its clauses stand in the front of the row.
use mathlib.Core.Path.{◌≡◌, refl, sym}
use Rattle.std.proofs.Common.{rules, Err}
use Prim.Native.Nat.{◌≤◌}
use lib.ListN.{length}
use lib.Seq.{length-take-le}
use Rattle.checker.specs.Answered.Answered.{cond_refused}
use Rattle.condition.proofs.Told.{condition-refused, clauses_few}
use Rattle.search.proofs.Prepared.{condition_prepared}
use Rattle.checker.proofs.finding.with_condition.Goals as goal
use Rattle.checker.proofs.finding.with_condition.Goals.{In_ok-count}

few : (c : In_ok-count) → c.in_ok-count.count ≤ length c.read_condition.new.places
few c = clauses_few _ _ _ c.requires.head c.read_condition.ensures _ c.in_ok-count.was c.read_condition.auto.places

pub slice_bounds-clauses-end : goal.slice_bounds-clauses-end
slice_bounds-clauses-end c =
    few (goal.at.slice_bounds-clauses-end c).In_ok-count

pub slice_bounds-search_for-end : goal.slice_bounds-search_for-end
slice_bounds-search_for-end c =
    sym (length-take-le _ _ (few (goal.at.slice_bounds-search_for-end c).In_ok-count))

pub search_for-requires : goal.search_for-requires
search_for-requires c =
    let r = c.requires in
    (r, condition_prepared _ _ _ r.head c.read_condition.ensures _ c.in_ok-count.was c.read_condition.auto.places r.index)

pub returns-in_err-count : goal.returns-in_err-count
returns-in_err-count c =
    let r = c.requires in
    let stopped : c.from_residual.result ≡ Err c.in_err-count.field-0.0 = search (rules) in
    rw stopped (cond_refused _ r.accepted (condition-refused _ _ _ r.head c.read_condition.ensures _ c.in_err-count.was) refl)
