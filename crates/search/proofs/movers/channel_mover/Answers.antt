-- `channel_mover` meets its contract: the row has the number of messages in transit on the clause's channel, by which the clause is tested and its end named.
use native.Mathlib.Omega.{arith}
use lib.ListN.{get_or}
use Rattle.run.proofs.Listed.{channels_are}
use Rattle.search.proofs.Tests.{channel_true, channel-false, end_counted}
use mathlib.Core.List.{List}
use Prim.Native.Nat.{ℕ}
use Rattle.record.specs.Record.{head_of}
use Rattle.condition.specs.declared.Test.{Test}
use Rattle.condition.specs.Known.{TestKnown}
use Rattle.clause.specs.ChannelTests.{CountKnown}
use Rattle.run.specs.Index.{IndexHolds}
use Rattle.transit.proofs.Stored.{holds_seen}
use Rattle.search.specs.Search.{Counted}
use Rattle.search.proofs.movers.channel_mover.Goals as goal

known : {s ix cut counts : List ℕ} {t : Test} → IndexHolds s ix → Counted s cut counts → TestKnown (head_of s) t → CountKnown s cut t (get_or counts t.channel 0)
known holds w k = record {
  asked = record { is_cut = w.is_cut; there = k.channel };
  some = k.some;
  linear = k.linear;
  count = w.each.each _ (omega (arith, k.channel, channels_are _ holds.listed.read));
}

pub bounds-counts-channel : goal.bounds-counts-channel
bounds-counts-channel c = let r = c.requires in omega (arith, r.1.channel, channels_are _ (holds_seen c.run.invariant c.run.view_is).listed.read, r.0.each.room)

pub channel_passes-requires : goal.channel_passes-requires
channel_passes-requires c = known (holds_seen c.run.invariant c.run.view_is) c.requires.0 c.requires.1

pub returns-then-channel_passes : goal.returns-then-channel_passes
returns-then-channel_passes c = channel_true _ _ _ _ _ c.channel_passes.ensures c.if-channel_passes.true

pub returns : goal.returns
returns c = channel-false _ _ _ _ _ c.channel_passes.ensures c.if-channel_passes.false (end_counted (known (holds_seen c.run.invariant c.run.view_is) c.requires.0 c.requires.1).count c.end_named.ensures)
