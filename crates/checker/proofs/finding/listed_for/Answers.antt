-- `listed_for` meets its contract: where a row is too short nothing is lent for the cut, and so nothing is written.
use mathlib.Core.Path.{refl}
use Rattle.cut.proofs.Writing.{room_lacks, room_there}
use Rattle.checker.proofs.Channels.{without_row}
use Rattle.checker.proofs.finding.listed_for.Goals as goal

pub returns-then-counts-size : goal.returns-then-counts-size
returns-then-counts-size c =
    let r = c.requires in
    without_row r (room_lacks _ _ _ c.if-counts-size.true) refl c.with_condition.auto.lent c.with_condition.ensures

pub with_channels-requires : goal.with_channels-requires
with_channels-requires c = (c.requires, room_there _ _ _ c.if-counts-size.false)
