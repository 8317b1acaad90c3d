-- What the tests say of a record of a condition beside the run's head: nothing, or why it is refused. Each chain has the paper's tests in the paper's order.
use Rattle.std.specs.Prelude.{Bool, true, false, not, ℕ, ltb, leb, eqb}
use Rattle.model.specs.declared.Mover.{Mover}
use Rattle.model.specs.declared.Mover.TheVariants.{Sender, Receiver, NotLinear}
use Rattle.model.specs.Clause.{mover}
use Rattle.record.specs.Layout.{value_count}
use Rattle.record.specs.Refusal.{Check, passed, refuse_if, ◌then◌}
use Rattle.record.specs.declared.reasons.Reason.TheVariants.{Limit, Name, Field}
use Rattle.record.specs.declared.reasons.Reason.TheVariants as Reason
use Rattle.record.specs.declared.Head.{Head}
use Rattle.condition.specs.declared.Local.{Local}
use Rattle.condition.specs.declared.Test.{Test}
use Rattle.condition.specs.declared.Clause.{Clause}
use Rattle.condition.specs.declared.Clause.TheVariants as C
use Rattle.condition.specs.declared.Item.{Item}
use Rattle.condition.specs.declared.Item.TheVariants as I
use Rattle.condition.specs.Clauses.{test_of}

-- 5: the number of clauses
unfoldable pub check_head : ℕ → Check
check_head clauses = refuse_if (ltb 32 clauses) Limit

-- 7: the process and the value have to exist; 8: the comparison is known
unfoldable pub check_local : Head → Local → Check
check_local h l =
    refuse_if (leb h.processes l.process) Name
    then refuse_if (leb value_count l.value) Name
    then refuse_if (eqb l.comparison 0) Field
    then refuse_if (ltb 4 l.comparison) Field

-- somebody is named who has to move
abbrev pub may_move : Mover → Bool
may_move Sender = true
may_move Receiver = true
may_move NotLinear = false

-- 7: the channel has to exist; 8: the test is known; 14: it is linear
unfoldable pub check_test : Head → Test → Check
check_test h t =
    refuse_if (leb h.channels t.channel) Name
    then refuse_if (eqb t.test 0) Field
    then refuse_if (ltb 9 t.test) Field
    then refuse_if (not (may_move (mover (test_of t.test t.operand) 0))) Reason.NotLinear

abbrev pub check_clause : Head → Clause → Check
check_clause h (C.Local l) = check_local h l
check_clause h (C.Channel t) = check_test h t

abbrev pub check_item : Head → Item → Check
check_item h (I.Head clauses) = check_head clauses
check_item h (I.Clause c) = check_clause h c
check_item h I.End = passed
