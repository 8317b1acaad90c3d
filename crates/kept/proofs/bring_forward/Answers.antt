-- `bring_forward` meets its contract, by the event of the state that the process moves into: a message changes the two numbers of its channel as the law of
-- one move says (proofs/Brought), where the partner tells whether its other end is in; any other event changes nothing.
use native.Mathlib.Omega.{arith}
use mathlib.Core.Path.{sym, ap, ◌∙◌}
use lib.ListN.{get_or}
use Prim.Native.Nat.{◌+◌}
use Rattle.model.proofs.Numbers.{never}
use Rattle.model.specs.NotYetSent.{move_on}
use Rattle.run.specs.Said.{run_in}
use Rattle.run.specs.Seen.{Seen}
use Rattle.run.proofs.Listed.{channels_are}
use Rattle.transit.proofs.Between.{Ends}
use Rattle.transit.proofs.Stored.{holds_seen, processes_few, states_few}
use Rattle.kept.specs.Kept.{CountsKept}
use Rattle.kept.proofs.Counted.{CountedMessage}
use Rattle.kept.proofs.Brought.{past_in, next_state, next_slot, ends_in, in_cut, past_of, quiet, send_counted, receive_counted}
use Rattle.kept.proofs.bring_forward.Goals.{After-channel-ends, After-channel-ends-in-Receive, After-other_end_past-past, After-other_end_past-past-in-Receive}
use Rattle.kept.proofs.bring_forward.Goals as goal

pub overflow_cast-process : goal.overflow_cast-process
overflow_cast-process c = record { fits = omega (arith, c.requires.0.process, processes_few (holds_seen c.run.invariant c.run.view_is)) }

pub overflow_add-k : goal.overflow_add-k
overflow_add-k c = let w = holds_seen c.run.invariant c.run.view_is in record { fits = omega (arith, states_few w (next_state w c.requires.0)) }

-- ---- no message

pub returns-in-Start : goal.returns-in-Start
returns-in-Start c =
    quiet (holds_seen c.run.invariant c.run.view_is) c.requires.0 c.requires.1 (λ m e. never (cc (e, c.event-event.ensures, c.in-Start.is))) (λ m e. never (cc (e, c.event-event.ensures, c.in-Start.is)))

pub returns-in-Internal : goal.returns-in-Internal
returns-in-Internal c =
    quiet (holds_seen c.run.invariant c.run.view_is) c.requires.0 c.requires.1 (λ m e. never (cc (e, c.event-event.ensures, c.in-Internal.is))) (λ m e. never (cc (e, c.event-event.ensures, c.in-Internal.is)))

-- ---- a send

pub channel-ends-requires : goal.channel-ends-requires
channel-ends-requires c = let w = holds_seen c.run.invariant c.run.view_is in omega (arith, channels_are _ w.listed.read, (w.known.sides.sender _ _ _ (sym c.event-event.ensures ∙ c.in-Send.is)).0)

send_ends : (c : After-channel-ends) → Ends (run_in c.args.run.now.run) c.in-Send.message.channel c.channel-ends.result
send_ends c =
    let w = holds_seen c.run.invariant c.run.view_is in
    let sides = w.known.sides.sender _ _ _ (sym c.event-event.ensures ∙ c.in-Send.is) in
    ends_in w c.requires.0 sides.0 c.channel-ends.ensures

pub bounds-cut-ends : goal.bounds-cut-ends
bounds-cut-ends c =
    let ends = send_ends (goal.at.bounds-cut-ends c).After-channel-ends in
    let (from, to) = in_cut (holds_seen c.run.invariant c.run.view_is) c.requires.0 ends in omega (arith, from, to)

pub other_end_past-past-requires : goal.other_end_past-past-requires
other_end_past-past-requires c = (c.run.invariant.listed.long, next_slot (holds_seen c.run.invariant c.run.view_is) c.requires.0)

-- the message is counted by the state that the cut has for the receiver
send_told : (c : After-other_end_past-past) → let a = c.args in
    CountedMessage c.other_end_past-past.result c.in-Send.message.channel a.counts.now a.unsent.now (CountsKept (run_in a.run.now.run) (move_on a.cut.now a.p))
send_told c =
    let w = holds_seen c.run.invariant c.run.view_is in
    let is = sym c.event-event.ensures ∙ c.in-Send.is in
    let ends = ends_in w c.requires.0 (w.known.sides.sender _ _ _ is).0 c.channel-ends.ensures in
    send_counted w c.requires.0 c.requires.1 _ is _ (c.other_end_past-past.ensures ∙ ap (λ (v : Seen). past_in v.index c.args.p (get_or c.args.cut.now c.args.p 0 + 1) (get_or c.args.cut.now c.channel-ends.result.to 0)) c.run.view_is ∙ ap (λ e. past_of w c.requires.0 (get_or c.args.cut.now e.to 0)) ends.same)

pub count_message-requires : goal.count_message-requires
count_message-requires c = (send_told (goal.at.count_message-requires c).After-other_end_past-past).needs

pub returns-in-Send : goal.returns-in-Send
returns-in-Send c = rw (c.count_message.ensures.0, c.count_message.ensures.1) (send_told (goal.at.returns-in-Send c).After-other_end_past-past).after

-- ---- a receive

pub channel-ends-requires-in-Receive : goal.channel-ends-requires-in-Receive
channel-ends-requires-in-Receive c = let w = holds_seen c.run.invariant c.run.view_is in omega (arith, channels_are _ w.listed.read, (w.known.sides.receiver _ _ _ (sym c.event-event.ensures ∙ c.in-Receive.is)).0)

receive_ends : (c : After-channel-ends-in-Receive) → Ends (run_in c.args.run.now.run) c.in-Receive.message.channel c.channel-ends-in-Receive.result
receive_ends c =
    let w = holds_seen c.run.invariant c.run.view_is in
    let sides = w.known.sides.receiver _ _ _ (sym c.event-event.ensures ∙ c.in-Receive.is) in
    ends_in w c.requires.0 sides.0 c.channel-ends-in-Receive.ensures

pub bounds-cut-ends-in-Receive : goal.bounds-cut-ends-in-Receive
bounds-cut-ends-in-Receive c =
    let ends = receive_ends (goal.at.bounds-cut-ends-in-Receive c).After-channel-ends-in-Receive in
    let (from, to) = in_cut (holds_seen c.run.invariant c.run.view_is) c.requires.0 ends in omega (arith, from, to)

pub other_end_past-past-requires-in-Receive : goal.other_end_past-past-requires-in-Receive
other_end_past-past-requires-in-Receive c = (c.run.invariant.listed.long, next_slot (holds_seen c.run.invariant c.run.view_is) c.requires.0)

-- and by the state that it has for the sender
receive_told : (c : After-other_end_past-past-in-Receive) → let a = c.args in
    CountedMessage c.other_end_past-past-in-Receive.result c.in-Receive.message.channel a.unsent.now a.counts.now (λ x y. CountsKept (run_in a.run.now.run) (move_on a.cut.now a.p) y x)
receive_told c =
    let w = holds_seen c.run.invariant c.run.view_is in
    let is = sym c.event-event.ensures ∙ c.in-Receive.is in
    let ends = ends_in w c.requires.0 (w.known.sides.receiver _ _ _ is).0 c.channel-ends-in-Receive.ensures in
    receive_counted w c.requires.0 c.requires.1 _ is _ (c.other_end_past-past-in-Receive.ensures ∙ ap (λ (v : Seen). past_in v.index c.args.p (get_or c.args.cut.now c.args.p 0 + 1) (get_or c.args.cut.now c.channel-ends-in-Receive.result.from 0)) c.run.view_is ∙ ap (λ e. past_of w c.requires.0 (get_or c.args.cut.now e.from 0)) ends.same)

pub count_message-requires-in-Receive : goal.count_message-requires-in-Receive
count_message-requires-in-Receive c = (receive_told (goal.at.count_message-requires-in-Receive c).After-other_end_past-past-in-Receive).needs

pub returns-in-Receive : goal.returns-in-Receive
returns-in-Receive c =
    rw (c.count_message-in-Receive.ensures.1, c.count_message-in-Receive.ensures.0) (receive_told (goal.at.returns-in-Receive c).After-other_end_past-past-in-Receive).after
