-- `channel_line` meets its contract: its parts are put one after the other.
use mir.Facts.{to_z-of_z}
use Rattle.writing.specs.Text.{bytes}
use Rattle.writing.proofs.Putting.{put_then}
use Rattle.answers.specs.Lines.{channel_line}
use Rattle.answers.proofs.channels.channel_line.Goals as goal

pub returns : goal.returns
unfolding channel_line bytes
returns c =
    let counted = put_then (put_then c.text.ensures c.spaced.ensures) c.spaced-2.ensures in
    put_then (put_then (put_then counted c.text-2.ensures) (rw (to_z-of_z c.ranges.stamp) at c.stamp_word.ensures)) c.text-3.ensures
