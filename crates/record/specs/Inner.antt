-- Words of the contracts of inner functions; the promises don't use them.
use Rattle.std.specs.Prelude.{ℕ, suc, length}
use Rattle.record.specs.declared.Head.{Head}
use Rattle.record.specs.Layout.{channel_place, value_count, value_place}
use Rattle.record.specs.Pass.{Read, Pass, read_from}

-- all records from the front, of a file that isn't too long
abbrev pub read_records : {Item Known : Type 0} → Pass Item Known → Read
read_records p = read_from p (suc (length p.bytes)) 0 p.start

-- the first state's record, behind the channels
abbrev pub states_place : Head → ℕ
states_place h = channel_place h.channels

-- behind the place of a state's record: where its values begin, and where its clock begins
abbrev pub values_place : ℕ
values_place = value_place 0

abbrev pub clock_place : ℕ
clock_place = value_place value_count
