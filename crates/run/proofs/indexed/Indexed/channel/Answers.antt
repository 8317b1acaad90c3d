use native.Mathlib.Omega.{arith}
use Prim.Native.Nat.{◌<◌}
use Rattle.std.proofs.Common.{rules}
use Rattle.record.specs.Record.{head_of}
use Rattle.run.proofs.Listed.{channels_are, channel_record}
use Rattle.run.proofs.indexed.Indexed.channel.Goals as goal

pub channel_at-requires : goal.channel_at-requires
channel_at-requires c =
    let w = c.self.invariant.listed in
    let there : c.args.h < (head_of c.self.inside.run.now).channels = search (rules, c.self.view_is) in
    channel_record _ w.read _ (omega (arith, channels_are _ w.read, there))
