-- What the tests say of a record of a run beside the number of states of each process so far: nothing, or why it is refused.
-- Each chain has the paper's tests in the paper's order.
use Rattle.std.specs.Prelude.{Bool, false, not, cond, ◌&&◌, ◌||◌, List, ℕ, zero, suc, ltb, leb, eqb, get_or}
use Rattle.record.specs.Refusal.{Check, passed, refuse_if, ◌then◌}
use Rattle.record.specs.declared.reasons.Reason.TheVariants.{Limit, Name, Field, Start, Side}
use Rattle.record.specs.Layout.{channel_place}
use Rattle.record.specs.Record.{head_of}
use Rattle.record.specs.declared.Head.{Head}
use Rattle.record.specs.declared.ChannelFields.{ChannelFields}
use Rattle.record.specs.declared.StateFields.{StateFields}
use Rattle.record.specs.declared.Record.{Record}
use Rattle.record.specs.declared.Record.TheVariants as R
use Rattle.states.specs.States.{channel_at}

-- 5: the numbers of processes and channels
unfoldable pub check_head : Head → Check
check_head h =
    refuse_if (eqb h.processes 0) Limit
    then refuse_if (ltb 8 h.processes) Limit
    then refuse_if (ltb 16 h.channels) Limit

-- 7: the channel's number in turn, its ends processes that differ
unfoldable pub check_channel : ℕ → ℕ → ChannelFields → Check
check_channel n at l =
    refuse_if (not (eqb (channel_place l.number) at)) Name
    then refuse_if (leb n l.from) Name
    then refuse_if (leb n l.to) Name
    then refuse_if (eqb l.from l.to) Name

-- 7: the process, and of a send or a receive the channel, have to exist
unfoldable pub check_names : Head → StateFields → Check
check_names h f =
    refuse_if (leb h.processes f.process) Name
    then refuse_if (eqb f.event 2 && leb h.channels f.channel) Name
    then refuse_if (eqb f.event 3 && leb h.channels f.channel) Name

-- 8: the event is known, and what it doesn't use is zero
unfoldable pub check_fields : StateFields → Check
check_fields f =
    refuse_if (ltb 3 f.event) Field
    then refuse_if (ltb f.event 2 && not (eqb f.channel 0)) Field
    then refuse_if (ltb f.event 2 && not (eqb f.message 0)) Field
    then refuse_if (not (eqb f.event 2) && not (eqb f.stamp 0)) Field

-- 9: a process's first state, and no other, is a start
unfoldable pub check_start : StateFields → ℕ → Check
check_start f count =
    refuse_if (eqb f.event 0 && not (eqb count 0)) Start
    then refuse_if (not (eqb f.event 0) && eqb count 0) Start

-- 10: only the channel's ends send and receive on it
unfoldable pub check_side : List ℕ → StateFields → Check
check_side s f =
    cond (eqb f.event 2) (refuse_if (not (eqb (channel_at s f.channel).from f.process)) Side)
    (cond (eqb f.event 3) (refuse_if (not (eqb (channel_at s f.channel).to f.process)) Side)
    passed)

-- a state in the order 7, 5, 8, 9, 10
unfoldable pub check_state : List ℕ → List ℕ → StateFields → Check
check_state s counts f =
    check_names (head_of s) f
    then refuse_if (leb 512 (get_or counts f.process 0)) Limit
    then check_fields f
    then check_start f (get_or counts f.process 0)
    then check_side s f

-- one of the processes 0 to n - 1 has no state
unfoldable pub lacks : List ℕ → ℕ → Bool
lacks counts zero = false
lacks counts (suc p) = lacks counts p || eqb (get_or counts p 0) 0

abbrev pub check_record : List ℕ → List ℕ → ℕ → Record → Check
check_record s counts at (R.Head h) = check_head h
check_record s counts at (R.Channel l) = check_channel (head_of s).processes at l
check_record s counts at (R.State f) = check_state s counts f
check_record s counts at R.End = refuse_if (lacks counts (head_of s).processes) Start
