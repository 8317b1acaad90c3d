-- `count_line` meets its contract: its parts are put one after the other.
use mir.Facts.{to_z-of_z}
use Rattle.writing.specs.Text.{bytes}
use Rattle.writing.proofs.Putting.{put_then}
use Rattle.answers.specs.Lines.{count_line}
use Rattle.answers.proofs.channels.count_line.Goals as goal

pub returns : goal.returns
unfolding count_line bytes
returns c =
    let spaced = put_then (put_then c.text.ensures c.spaced.ensures) c.text-2.ensures in
    put_then (put_then spaced (rw (to_z-of_z c.ranges.stamp) at c.signed.ensures)) c.text-3.ensures
