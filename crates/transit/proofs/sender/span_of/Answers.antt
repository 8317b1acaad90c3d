-- `span_of` meets its contract: the ends are processes of the run, so the cut has their numbers.
use native.Mathlib.Omega.{arith}
use mathlib.Core.Path.{ap, sym, subst, ◌∙◌}
use Prim.Native.Nat.{◌<◌}
use Rattle.std.proofs.Common.{rules}
use Rattle.model.specs.declared.Channel.{Channel}
use Rattle.model.specs.Cut.{at}
use Rattle.record.specs.Record.{head_of}
use Rattle.run.specs.Said.{run_in}
use Rattle.states.specs.States.{channel_at}
use Rattle.run.specs.Seen.{Seen}
use Rattle.run.proofs.Listed.{ok}
use Rattle.transit.specs.Waiting.{span_of, SenderThere}
use Rattle.transit.proofs.Between.{Ends, ends_of, span_there}
use Rattle.transit.proofs.Stored.{holds_seen}
use Rattle.transit.proofs.sender.span_of.Goals.{After-channel_at-ends}
use Rattle.transit.proofs.sender.span_of.Goals as goal

pub channel_at-ends-requires : goal.channel_at-ends-requires
channel_at-ends-requires c =
    let there : c.args.channel < (head_of c.run.inside.run.now).channels = search (rules, c.run.view_is) in
    omega (arith, there, (ok _ c.run.invariant.listed.read).whole)

ends_seen : (c : After-channel_at-ends) → Ends (run_in c.args.run.now.run) c.args.channel c.channel_at-ends.result
ends_seen c = ends_of _ (holds_seen c.run.invariant c.run.view_is).listed.read c.requires.1 (c.channel_at-ends.ensures ∙ ap (λ (v : Seen). channel_at v.run c.args.channel) c.run.view_is)

pub bounds-cut-ends : goal.bounds-cut-ends
bounds-cut-ends c = let ends = ends_seen (goal.at.bounds-cut-ends c).After-channel_at-ends in omega (arith, ends.from, c.requires.0.size)

pub bounds-cut-ends-2 : goal.bounds-cut-ends-2
bounds-cut-ends-2 c = let ends = ends_seen (goal.at.bounds-cut-ends-2 c).After-channel_at-ends in omega (arith, ends.to, c.requires.0.size)

pub returns : goal.returns
unfolding span_of
returns c =
    let cut = c.args.cut.now in
    let same = ap (λ (e : Channel). record { channel = c.args.channel; from = e.from; sent = at cut e.from; received = at cut e.to }) (ends_seen (goal.at.returns c).After-channel_at-ends).same in
    (same, subst (SenderThere (run_in c.args.run.now.run)) (sym same) (span_there (holds_seen c.run.invariant c.run.view_is) c.requires.0 c.requires.1))
