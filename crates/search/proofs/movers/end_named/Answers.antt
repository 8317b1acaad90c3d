-- `end_named` meets its contract: the test says which of the channel's ends, which are processes of the run.
use native.Mathlib.Omega.{arith}
use mathlib.Core.Path.{sym, ap, ◌∙◌}
use Prim.Native.Nat.{◌<◌}
use Rattle.std.proofs.Common.{rules}
use Rattle.record.specs.Record.{head_of}
use Rattle.states.specs.States.{channel_at}
use Rattle.run.specs.Said.{run_in}
use Rattle.run.specs.Seen.{Seen}
use Rattle.run.proofs.Listed.{ok}
use Rattle.transit.proofs.Between.{Ends, ends_of}
use Rattle.transit.proofs.Stored.{holds_seen}
use Rattle.search.proofs.Tests.{names_sender, names_receiver, test_says}
use Rattle.search.proofs.movers.end_named.Goals.{After-channel_at-ends}
use Rattle.search.proofs.movers.end_named.Goals as goal

pub channel_at-ends-requires : goal.channel_at-ends-requires
channel_at-ends-requires c =
    let there : c.args.clause.channel < (head_of c.run.inside.run.now).channels = search (rules, c.run.view_is, c.requires.channel) in
    omega (arith, there, (ok _ c.run.invariant.listed.read).whole)

ends : (c : After-channel_at-ends) → Ends (run_in c.args.run.now.run) c.args.clause.channel c.channel_at-ends.result
ends c = ends_of _ (holds_seen c.run.invariant c.run.view_is).listed.read c.requires.channel (c.channel_at-ends.ensures ∙ ap (λ (v : Seen). channel_at v.run c.args.clause.channel) c.run.view_is)

pub returns-in-Sender : goal.returns-in-Sender
returns-in-Sender c = names_sender (ends (goal.at.returns-in-Sender c).After-channel_at-ends) (sym c.who_moves-mover.ensures ∙ c.in-Sender.is)

pub returns-in-Receiver : goal.returns-in-Receiver
returns-in-Receiver c = names_receiver (ends (goal.at.returns-in-Receiver c).After-channel_at-ends) (sym c.who_moves-mover.ensures ∙ c.in-Receiver.is)

pub returns-in-NotLinear : goal.returns-in-NotLinear
returns-in-NotLinear c =
    let r = c.requires in
    absurd (test_says _ _ _ r.some r.linear (sym c.who_moves-mover.ensures ∙ c.in-NotLinear.is))
