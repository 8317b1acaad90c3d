-- `ahead_of` meets its contract: the partner of a receive is its send, and is never a first state.
use native.Mathlib.Omega.{arith}
use mathlib.Core.Path.{refl, sym, ◌∙◌}
use Rattle.judged.specs.Order.AheadIs.{nothing}
use Rattle.run.proofs.Listed.{channel_record, listed_slot}
use Rattle.judged.proofs.Orders.{ahead_later, ahead_receive}
use Rattle.judged.proofs.Processes.{on_channel, sender_of}
use Rattle.order.proofs.ahead_of.Goals as goal

pub returns-in_default : goal.returns-in_default
returns-in_default c = nothing (λ m e. c.in_default.not-Receive m (c.event_at.ensures ∙ e))

pub channel_at-requires : goal.channel_at-requires
channel_at-requires c =
    let l = c.requires.0.listed in
    channel_record _ l.read _ (on_channel _ _ l (sym c.in-Receive.ensures)).0

pub partner_of-requires : goal.partner_of-requires
partner_of-requires c = let r = c.requires in (r.0.listed.long, listed_slot _ _ r.0.listed r.1)

pub overflow_sub-result : goal.overflow_sub-result
overflow_sub-result c =
    let r = c.requires in
    omega (arith, c.partner_of.ensures, ahead_later _ r.0.known _ r.0.partners _ _ _ (sym c.in-Receive.ensures))

pub returns : goal.returns
returns c =
    let r = c.requires in
    let l = r.0.listed in
    let received = sym c.in-Receive.ensures in
    let sender = sender_of l (on_channel _ _ l received).1 c.channel_at.ensures in
    rw c.partner_of.ensures (ahead_receive _ r.0.known _ r.0.partners _ _ _ received _ sender.same refl)
