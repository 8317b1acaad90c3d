-- `number` meets its contract: the digits are those that `io::decimal` makes.
use mathlib.Core.Path.{◌∙◌}
use Rattle.writing.proofs.Decimal.{decimal_made}
use Rattle.writing.proofs.Putting.{put_as}
use Rattle.writing.proofs.Lines.number.Goals as goal

pub returns : goal.returns
returns c = put_as c.text.ensures (c.decimal-k.ensures.digits ∙ decimal_made c.decimal-k.ensures.len)
