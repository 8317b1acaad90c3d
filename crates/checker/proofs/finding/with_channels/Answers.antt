-- `with_channels` meets its contract: what isn't found leaves both rows as they were, and the front of the lent places is the cut that was found.
use native.Mathlib.Omega.{arith}
use mathlib.Core.Path.{refl, sym, ap}
use Prim.Native.Nat.{◌≤◌}
use lib.ListN.{length}
use lib.Seq.{length-take-le}
use Rattle.std.specs.Prelude.{Ok, Err}
use Rattle.std.proofs.lemmas.Result.{err_from_is_err_and}
use Rattle.model.proofs.Numbers.{never}
use Rattle.checker.specs.Answered.AnsweredListed.{unlisted}
use Rattle.checker.proofs.Channels.{CutFound, found_cut, front_cut, front_listed, room_for}
use Rattle.checker.proofs.finding.with_channels.Goals as goal
use Rattle.checker.proofs.finding.with_channels.Goals.{In-Found}

pub returns-in_err-outcome : goal.returns-in_err-outcome
returns-in_err-outcome c =
    let r = c.requires in
    let p = err_from_is_err_and c.from_residual.result c.from_residual.ensures.1 in
    rw (p.1, p.2) (unlisted (Err c.in_err-outcome.field-0.0) (λ e. never (cc)) (λ b. room_for r.0 r.1) c.in_err-outcome.ensures refl refl)

pub returns-in_default : goal.returns-in_default
returns-in_default c =
    let r = c.requires in
    let none = c.in_default.is in
    unlisted _ (λ e. never (cc)) (λ b. room_for r.0 r.1) c.in_ok-outcome.ensures refl refl

cut : (c : In-Found) → CutFound c.args.run.now.run c.args.cond.now c.args.lent.now c.with_condition.new.lent
cut c = found_cut c.in_ok-outcome.ensures (ap Ok c.in-Found.is)

few : (c : In-Found) → c.args.head.processes ≤ length c.with_condition.new.lent
few c = let u = cut c in omega (arith, ap (λ h. h.processes) c.requires.0.head, u.room, u.wrote.long)

pub slice_bounds-list_channels-end : goal.slice_bounds-list_channels-end
slice_bounds-list_channels-end c = few (goal.at.slice_bounds-list_channels-end c).In-Found

pub slice_bounds-list_channels-end-2 : goal.slice_bounds-list_channels-end-2
slice_bounds-list_channels-end-2 c = sym (length-take-le _ _ (few (goal.at.slice_bounds-list_channels-end-2 c).In-Found))

pub list_channels-requires : goal.list_channels-requires
list_channels-requires c =
    let r = c.requires in
    record { is_cut = front_cut r.0 (cut (goal.at.list_channels-requires c).In-Found); all = ap (λ h. h.channels) r.0.head; room = r.1 }

pub returns : goal.returns
returns c =
    let r = c.requires in
    let (counts, stamps) = c.list_channels.ensures in
    rw c.in-Found.is (front_listed r.0 r.1 (cut (goal.at.returns c).In-Found) (rw (← c.in-Found.is) c.in_ok-outcome.ensures) counts stamps)
