-- `enter` meets its contract: the message that is received is on a channel of the run, and only the channel's sender may have sent it.
use native.Mathlib.Omega.{arith}
use mathlib.Core.Path.{◌∙◌}
use Rattle.model.proofs.Pairing.{received_there}
use Rattle.judged.proofs.Pairs.{received_none, received_one, send_there}
use Rattle.judged.proofs.Processes.{on_channel, sender_of}
use Rattle.run.proofs.Listed.{sides, channel_record, listed_slot}
use Rattle.run.proofs.Kept.{kept_on, kept_set, kept_listed}
use Rattle.pairing.proofs.enter.Goals as goal

pub send_of-requires : goal.send_of-requires
send_of-requires c = (c.requires.0, c.requires.1, (on_channel _ _ c.requires.0 c.requires.2).1)

pub returns-in_default-clause-received : goal.returns-in_default-clause-received
returns-in_default-clause-received c = received_none _ (sides _ c.requires.0.read) _ _ _ c.requires.2 _ c.in_default.ensures

pub channel_at-from-requires : goal.channel_at-from-requires
channel_at-from-requires c = channel_record _ c.requires.0.read _ (on_channel _ _ c.requires.0 c.requires.2).0

pub enter_partner-requires : goal.enter_partner-requires
enter_partner-requires c =
    let l = c.requires.0 in
    let sender = sender_of l (on_channel _ _ l c.requires.2).1 c.channel_at-from.ensures in
    (l.long, rw sender.same (listed_slot _ _ l (send_there _ (sides _ l.read) _ _ _ c.requires.2 c.in-Some.ensures)))

pub enter_partner-requires-2 : goal.enter_partner-requires-2
enter_partner-requires-2 c =
    let r = c.requires in
    (c.enter_partner.auto.index ∙ r.0.long, listed_slot _ _ r.0 (received_there r.2))

pub returns : goal.returns
returns c =
    let l = c.requires.0 in
    let sender = sender_of l (on_channel _ _ l c.requires.2).1 c.channel_at-from.ensures in
    rw (c.enter_partner-2.ensures, c.enter_partner.ensures, sender.same) (record {
      received = received_one _ (sides _ l.read) _ _ _ c.requires.2 _ _ c.in-Some.ensures;
      listed = kept_listed (kept_on (kept_set _ _ _ (omega arith)) (kept_set _ _ _ (omega arith))) l;
    })
