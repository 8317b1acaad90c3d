-- `channel_lines` meets its contract. The invariant of its loop: the lines of the first channels are put.
use borrow.Author.Rules.{rules}
use native.Mathlib.Omega.{arith}
use mathlib.Core.Path.{◌≡◌, sym, ap, ◌∙◌}
use mathlib.Core.Logic.{⊎_elim}
use Prim.Native.Nat.{zero-le, min}
use lib.IntN.{pos}
use lib.ListN.{length, length-drop}
use mir.Facts.{to_z-of_z}
use mir.Syntax.{w32}
use mir.Val.{SFits}
use Rattle.writing.proofs.Putting.{put_none, lines_next, lines_all}
use Rattle.answers.proofs.ChannelLines.{channel_line_at, channel-lines}
use Rattle.answers.proofs.Fronts.{front_at}
use Rattle.answers.proofs.channels.channel_lines.Goals as goal

pub loop-i-init : goal.loop-i-init
loop-i-init c =
    let e = c.into_iter-i-iterator.ensures.into_iter_gives in
    let none : c.into_iter-i-iterator.result.count ≡ 0 = ap (λ s. s.count) e ∙ c.enumerate-i-items.ensures.count in
    let pairs : c.into_iter-i-iterator.result.iter ≡ c.zip.result = ap (λ s. s.iter) e ∙ c.enumerate-i-items.ensures.source in
    record {
      counts = rw (none, pairs, c.zip.ensures.first) c.iter.ensures.rest;
      stamps = rw none (search rules);
      within = rw none (zero-le, zero-le);
      put = rw none (put_none _ (omega arith));
    }

pub loop-i-preserved : goal.loop-i-preserved
loop-i-preserved c =
    let a = c.args in
    let w = c.loop-i.invariant in
    let ((counts, stamps), number, next, _) = c.in-Some.ensures.steps in
    let (h, count, counts_left) = front_at a.counts.now c.loop-i.i-iterator.count 0 _ _ (sym w.counts ∙ counts) in
    let (g, stamp, stamps_left) = front_at a.stamps.now c.loop-i.i-iterator.count (pos 0) _ _ (sym w.stamps ∙ stamps) in
    let fits : SFits w32 c.in-Some.stamp.now = search rules in
    record {
      counts = rw next counts_left;
      stamps = rw next stamps_left;
      within = (omega (arith, next, h), omega (arith, next, g));
      put = rw next (lines_next (channel_line_at a.counts.now a.stamps.now) w.put (rw (to_z-of_z fits, number, count, stamp) at c.channel_line.ensures));
    }

pub returns : goal.returns
returns c =
    let a = c.args in
    let w = c.loop-i.invariant in
    let k = c.loop-i.i-iterator.count in
    let all : k ≡ min (length a.counts.now) (length a.stamps.now) = ⊎_elim
    (λ s. let l = ap length w.counts in omega (arith, s.1.0, l, length-drop k a.counts.now, w.within.0, w.within.1))
    (λ s. let l = ap length w.stamps in omega (arith, s.1.0, l, length-drop k a.stamps.now, w.within.0, w.within.1)) c.in-None.ensures.steps.0 in
    lines_all (channel_line_at a.counts.now a.stamps.now) w.put all (channel-lines a.counts.now a.stamps.now)
