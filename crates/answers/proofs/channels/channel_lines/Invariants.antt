-- `channel_lines` meets its contract. The invariant of its loop: the lines of the first channels are put, and what is left of both rows begins behind them.
use mathlib.Core.Path.{◌≡◌}
use Prim.Native.Nat.{◌≤◌}
use lib.ListN.{length, drop}
use Rattle.writing.specs.Stored.{Put}
use Rattle.writing.proofs.Rows.{lines_to}
use Rattle.answers.proofs.ChannelLines.{channel_line_at}
use Rattle.answers.proofs.channels.channel_lines.Given as goal

abbrev pub invariant-loop-i : goal.invariant-loop-i
invariant-loop-i l = record {
  counts : l.i-iterator.iter.a.rest.now ≡ drop l.i-iterator.count l.counts;
  stamps : l.i-iterator.iter.b.rest.now ≡ drop l.i-iterator.count l.stamps;
  within : (l.i-iterator.count ≤ length l.counts) × (l.i-iterator.count ≤ length l.stamps);
  put : Put (lines_to (channel_line_at l.counts l.stamps) l.i-iterator.count) l.initial.lines l.lines;
}
