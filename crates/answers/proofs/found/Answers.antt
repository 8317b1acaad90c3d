-- `found` meets its contract: its parts are put one after the other.
use Rattle.writing.specs.Text.{bytes}
use Rattle.answers.specs.Lines.{found_lines}
use Rattle.writing.proofs.Putting.{put_then}
use Rattle.answers.proofs.found.Goals as goal

pub returns : goal.returns
unfolding found_lines bytes
returns c = put_then (put_then c.text.ensures c.row_lines.ensures) c.channel_lines.ensures
