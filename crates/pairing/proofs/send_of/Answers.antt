-- `send_of` meets its contract: a send that is found behind the last one is one of all, and else all states are looked at.
use native.Mathlib.Omega.{arith}
use mathlib.Core.Path.{◌∙◌}
use mathlib.Core.Bool.{true}
use Rattle.judged.proofs.Pairs.{carrier_near, carrier_at}
use Rattle.judged.proofs.Processes.{sender_of, sender_stretch}
use Rattle.run.proofs.Listed.{ok}
use Rattle.pairing.proofs.send_of.Goals as goal

pub channel_at-from-requires : goal.channel_at-from-requires
channel_at-from-requires c = omega (arith, (ok _ c.requires.0.read).whole)

pub count_of-count-requires : goal.count_of-count-requires
count_of-count-requires c = let sender = sender_of c.requires.0 c.requires.2 c.channel_at-from.ensures in (c.requires.0.long, sender.row.eight)

pub bounds-hints-c : goal.bounds-hints-c
bounds-hints-c c = omega (arith, (ok _ c.requires.0.read).head.channels)

pub find-requires : goal.find-requires
find-requires c =
    let sender = sender_of c.requires.0 c.requires.2 c.channel_at-from.ensures in
    sender_stretch c.requires.0 sender c.count_of-count.ensures c.behind-next.ensures

pub bounds-hints-c-in-Some : goal.bounds-hints-c-in-Some
bounds-hints-c-in-Some c = omega (arith, (ok _ c.requires.0.read).head.channels)

pub returns-in-Some : goal.returns-in-Some
returns-in-Some c =
    let sender = sender_of c.requires.0 c.requires.2 c.channel_at-from.ensures in
    carrier_at _ true _ _ sender.same (c.count_of-count.ensures ∙ sender.counted) (carrier_near c.behind-next.ensures c.in-Some.ensures)

pub find-requires-2 : goal.find-requires-2
find-requires-2 c =
    let sender = sender_of c.requires.0 c.requires.2 c.channel_at-from.ensures in
    sender_stretch c.requires.0 sender c.count_of-count.ensures (omega arith)

pub returns : goal.returns
returns c =
    let sender = sender_of c.requires.0 c.requires.2 c.channel_at-from.ensures in
    carrier_at _ true _ _ sender.same (c.count_of-count.ensures ∙ sender.counted) c.find-2.ensures
