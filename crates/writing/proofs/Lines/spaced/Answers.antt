use Rattle.writing.specs.Text.{bytes, spaced}
use Rattle.writing.proofs.Putting.{put_then}
use Rattle.writing.proofs.Lines.spaced.Goals as goal

pub returns : goal.returns
unfolding spaced bytes
returns c = put_then c.text.ensures c.number.ensures
