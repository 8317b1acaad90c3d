-- `list_channels` meets its contract. The invariant of its loop: the channels so far have their numbers and lowest stamps in the first places, and the other places are as they were.
use native.Mathlib.Omega.{arith}
use mathlib.Core.Path.{◌≡◌, sym, subst, ◌∙◌}
use Rattle.run.specs.Said.{run_in}
use Rattle.run.proofs.Listed.{channels_are}
use Rattle.cut.specs.Listing.{WroteLowest}
use Rattle.cut.proofs.Writing.{filled_more, filled_each, lowest_more}
use Rattle.transit.proofs.Stored.{holds_seen}
use Rattle.cut.proofs.listing.list_channels.Goals as goal

pub loop-channel-preserved : goal.loop-channel-preserved
loop-channel-preserved c =
    let r = c.requires in
    let i = c.loop-channel.invariant in
    let there = c.load_on-load.ensures.0 in (
      filled_more _ i.0 (omega (arith, r.room.counts, c.loop-channel-test.true)) (c.count_in.ensures _ there),
      rw c.enter.ensures (lowest_more _ _ i.1 there (omega (arith, r.room.stamps, c.loop-channel-test.true))),
    )

pub returns : goal.returns
returns c =
    let a = c.args in
    let r = c.requires in
    let i = c.loop-channel.invariant in
    let all : c.loop-channel.channel ≡ a.channels = omega (arith, c.loop-channel.auto.channel-end, c.loop-channel-test.false) in (
      filled_each _ _ (all ∙ r.all ∙ sym (channels_are _ (holds_seen c.run.invariant c.run.view_is).listed.read)) i.0,
      subst (λ n. WroteLowest (run_in a.run.now.run) a.cut.now n a.stamps.now c.loop-channel.stamps) all i.1,
    )
