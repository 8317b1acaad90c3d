-- `list_in` meets its contract: at each way out, what the tests of the cut and of the room gave.
use mathlib.Core.Path.{refl, ap, subst}
use Rattle.std.proofs.lemmas.Result.{err_from_is_err_and}
use Rattle.run.specs.Said.{run_in}
use Rattle.questions.specs.Questions.{AskedEach}
use Rattle.cut.specs.Listing.{Room, WroteLowest}
use Rattle.cut.proofs.Writing.{room_lacks, room_there}
use Rattle.questions.proofs.listing.list_in.Goals as goal

pub returns-in_err-given_cut : goal.returns-in_err-given_cut
returns-in_err-given_cut c =
    let r = c.requires in
    let p = err_from_is_err_and c.from_residual.result c.from_residual.ensures.1 in
    rw (p.1, p.2, c.in_err-given_cut.ensures.0) (AskedEach.not_cut r.accepted c.in_err-given_cut.ensures.1 refl refl)

pub returns-then-counts-size : goal.returns-then-counts-size
returns-then-counts-size c =
    let r = c.requires in
    let a = c.args in
    let lacks = subst (λ n. ¬ Room n a.counts.now a.stamps.now) (ap (λ h. h.channels) r.head) (room_lacks _ _ _ c.if-counts-size.true) in
    rw c.refusal_of.ensures (AskedEach.few r.accepted c.in_ok-given_cut.ensures lacks refl refl)

pub list_channels-requires : goal.list_channels-requires
list_channels-requires c =
    let r = c.requires in
    record { is_cut = c.in_ok-given_cut.ensures; all = ap (λ h. h.channels) r.head; room = room_there _ _ _ c.if-counts-size.false }

pub returns : goal.returns
returns c =
    let r = c.requires in
    let a = c.args in
    let n = ap (λ h. h.channels) r.head in
    let (counts, stamps) = c.list_channels.ensures in
    AskedEach.listed r.accepted c.in_ok-given_cut.ensures (subst (λ n. Room n a.counts.now a.stamps.now) n (room_there _ _ _ c.if-counts-size.false)) counts
    (subst (λ n. WroteLowest (run_in a.run.now.run) a.cut.now n a.stamps.now c.list_channels.new.stamps) n stamps)
