-- `messages_in` meets its contract: at each way out, what the tests of the cut and of the channel gave.
use native.Mathlib.Omega.{arith}
use mathlib.Core.Path.{ap}
use Rattle.std.proofs.lemmas.Result.{err_from_is_err_and}
use Rattle.questions.specs.Questions.{AskedMessages}
use Rattle.questions.proofs.Asked.{load_answers}
use Rattle.questions.proofs.messages.messages_in.Goals as goal

pub returns-in_err-given_cut : goal.returns-in_err-given_cut
returns-in_err-given_cut c =
    let r = c.requires in
    let p = err_from_is_err_and c.from_residual.result c.from_residual.ensures.1 in
    rw (p.1, p.2, c.in_err-given_cut.ensures.0) (AskedMessages.not_cut r.accepted c.in_err-given_cut.ensures.1)

pub returns-then-head-channel : goal.returns-then-head-channel
returns-then-head-channel c =
    let r = c.requires in
    rw c.refusal_of.ensures (AskedMessages.no_such_channel r.accepted c.in_ok-given_cut.ensures (omega (arith, c.if-head-channel.true, ap (λ h. h.channels) r.head)))

pub load_on-requires : goal.load_on-requires
load_on-requires c =
    let r = c.requires in
    record { is_cut = c.in_ok-given_cut.ensures; there = omega (arith, c.if-head-channel.false, ap (λ h. h.channels) r.head) }

pub returns : goal.returns
returns c =
    let r = c.requires in
    load_answers r.accepted c.in_ok-given_cut.ensures (omega (arith, c.if-head-channel.false, ap (λ h. h.channels) r.head)) c.load_on.ensures.0
