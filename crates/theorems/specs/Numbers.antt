-- The paper's numbers and values by the cases of each enum: events, kinds of records, comparisons, tests.
use Rattle.std.specs.Prelude.{◌≡◌, List, ℕ, ℤ, pos}
use Rattle.model.specs.declared.Event.{Event}
use Rattle.model.specs.declared.Event.TheVariants.{Start, Internal, Send, Receive}
use Rattle.model.specs.Clause.{Comparison, Test, Clause}
use Rattle.model.specs.Clause.Comparison.{equal, other, at_most, at_least}
use Rattle.model.specs.Clause.Test.{count_at_most, count_at_least, count_is, stamp_is, no_stamp_is, every_at_least, some_at_most, count_odd, count_other}
use Rattle.model.specs.Clause.Clause.{local, on}
use Rattle.record.specs.Bytes.{u16_at, signed}
use Rattle.record.specs.Pass.{places_in}
use Rattle.record.specs.Record.{kind_at, head_of}
use Rattle.record.specs.declared.Record.{Record}
use Rattle.record.specs.declared.Record.TheVariants as R
use Rattle.record.specs.declared.StateFields.{StateFields}
use Rattle.condition.specs.Clauses.{local_at, test_at}
use Rattle.condition.specs.Read.{read_of}
use Rattle.condition.specs.declared.Clause.TheVariants as C
use Rattle.condition.specs.declared.Item.{Item}
use Rattle.condition.specs.declared.Item.TheVariants as I

-- ---- events

-- the fields of a state's record that its event fills, the stamp as the signed number that it is
pub record EventFields : Type 0 where
  pub event : ℕ
  pub channel : ℕ
  pub message : ℕ
  pub stamp : ℤ

-- "0 start, 1 internal, 2 send, 3 receive. Events 0 and 1 have channel, message and stamp zero; a receive has stamp zero. For a send all three are real."
abbrev pub event_fields : Event → EventFields
event_fields Start = record { event = 0; channel = 0; message = 0; stamp = pos 0 }
event_fields Internal = record { event = 1; channel = 0; message = 0; stamp = pos 0 }
event_fields (Send m) = record { event = 2; channel = m.channel; message = m.number; stamp = m.stamp }
event_fields (Receive m) = record { event = 3; channel = m.channel; message = m.number; stamp = pos 0 }

-- those that a record has
abbrev pub recorded_fields : StateFields → EventFields
recorded_fields f = record { event = f.event; channel = f.channel; message = f.message; stamp = signed f.stamp }

-- ---- kinds of records

-- of a run: 1 head, 2 channel, 3 state, 4 end
abbrev pub record_kind : Record → ℕ
record_kind (R.Head h) = 1
record_kind (R.Channel l) = 2
record_kind (R.State f) = 3
record_kind R.End = 4

-- of a condition: 16 head, 17 local clause, 18 channel clause, 4 end
abbrev pub item_kind : Item → ℕ
item_kind (I.Head clauses) = 16
item_kind (I.Clause (C.Local l)) = 17
item_kind (I.Clause (C.Channel t)) = 18
item_kind I.End = 4

-- ---- clauses

-- where the clause records of a condition stand, in file order; and the clause count K that its head says
abbrev pub clause_places : List ℕ → List ℕ → List ℕ
clause_places s c = places_in (read_of c (head_of s))

abbrev pub clause_count : List ℕ → ℕ
clause_count c = u16_at c 4

-- "Local comparisons, signed: 1 equal, 2 other than, 3 at most, 4 at least."
abbrev pub comparison_number : Comparison → ℕ
comparison_number equal = 1
comparison_number other = 2
comparison_number at_most = 3
comparison_number at_least = 4

-- the tests in the order of the paper's table
abbrev pub test_number : Test → ℕ
test_number (count_at_most c) = 1
test_number (count_at_least c) = 2
test_number (count_is c) = 3
test_number (stamp_is x) = 4
test_number (no_stamp_is x) = 5
test_number (every_at_least x) = 6
test_number (some_at_most x) = 7
test_number count_odd = 8
test_number (count_other c) = 9

-- "c is unsigned, x signed": the test's number is the operand n of a record; test 8 has none
abbrev pub OperandIs : Test → ℕ → Type 0
OperandIs (count_at_most c) n = c ≡ n
OperandIs (count_at_least c) n = c ≡ n
OperandIs (count_is c) n = c ≡ n
OperandIs (stamp_is x) n = x ≡ signed n
OperandIs (no_stamp_is x) n = x ≡ signed n
OperandIs (every_at_least x) n = x ≡ signed n
OperandIs (some_at_most x) n = x ≡ signed n
OperandIs count_odd n = Unit {0}
OperandIs (count_other c) n = c ≡ n

-- the record at a place has a clause's kind, numbers and values
abbrev pub ClauseRecorded : List ℕ → ℕ → Clause → Type 0
ClauseRecorded c at (local i v o x) = (kind_at c at ≡ 17) × (local_at c at ≡ record { process = i; value = v; comparison = comparison_number o; constant = x })
ClauseRecorded c at (on h t) = (kind_at c at ≡ 18) × ((test_at c at).channel ≡ h) × ((test_at c at).test ≡ test_number t) × OperandIs t (test_at c at).operand
