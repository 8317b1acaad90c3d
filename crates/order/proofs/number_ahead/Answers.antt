use Rattle.std.proofs.Common.{rules}
use Rattle.judged.specs.Order.{number_ahead}
use Rattle.order.proofs.number_ahead.Goals as goal

pub returns : goal.returns
unfolding number_ahead
returns c = search rules
