-- `pair_line` meets its contract: its parts are put one after the other.
use Rattle.writing.specs.Text.{bytes, pair_line}
use Rattle.writing.proofs.Putting.{put_then}
use Rattle.writing.proofs.Lines.pair_line.Goals as goal

pub returns : goal.returns
unfolding pair_line bytes
returns c = put_then (put_then (put_then c.text.ensures c.spaced.ensures) c.spaced-2.ensures) c.text-2.ensures
