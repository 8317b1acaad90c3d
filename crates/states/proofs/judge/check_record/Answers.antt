-- `check_record` meets its contract: a state or an end doesn't stand at 0, so that the head was judged right and has its limit.
use native.Mathlib.Omega.{arith}
use mathlib.Core.Path.{sym, ◌∙◌}
use Rattle.states.proofs.Laws.{state_there, end_there}
use Rattle.states.proofs.judge.check_record.Goals as goal

pub check_state-requires : goal.check_state-requires
check_state-requires c =
    let r = c.requires in
    let w = state_there _ _ _ r.opening (sym r.item ∙ c.in-State.is) in
    record { head = r.head; few = r.few w.past; channels = rw r.head (omega (arith, w.behind, w.whole)); eight = r.eight }

pub lacking-requires : goal.lacking-requires
lacking-requires c =
    let r = c.requires in
    let w = end_there _ _ r.opening (sym r.item ∙ c.in-End.is) in
    omega (arith, r.few w.0, r.eight)

pub returns-in-End : goal.returns-in-End
returns-in-End c = rw (c.in-End.is, c.refuse_if.ensures, c.lacking.ensures, c.requires.head)
