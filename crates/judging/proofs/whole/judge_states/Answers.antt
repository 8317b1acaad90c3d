-- `judge_states` meets its contract: at each way out, what the three judgements so far gave.
use mathlib.Core.Path.{ap}
use Rattle.judged.specs.Judged.Judged.{by_pairing, by_circle, by_clock, wholly}
use Rattle.judged.proofs.Firsts.{fault_at, no_fault}
use Rattle.judging.proofs.whole.judge_states.Goals as goal

pub returns-in-Some : goal.returns-in-Some
returns-in-Some c = rw c.refusal_of.ensures (by_pairing _ c.requires.0.read (fault_at c.in-Some.ensures.0), tt)

pub first_circular-requires : goal.first_circular-requires
first_circular-requires c =
    let (known, partners) = (no_fault c.in_default.ensures.0).1 in
    (record { listed = c.first_unpaired.ensures.1; known = known; partners = partners }, ap (λ h. h.processes) c.requires.2)

pub returns-in-Some-first_circular : goal.returns-in-Some-first_circular
returns-in-Some-first_circular c =
    let paired = no_fault c.in_default.ensures.0 in
    rw c.refusal_of-in-Some-first_circular.ensures (by_circle _ c.requires.0.read paired.0 (fault_at c.in-Some-first_circular.ensures.0), tt)

pub returns-in-Some-first_wrong_clock : goal.returns-in-Some-first_wrong_clock
returns-in-Some-first_wrong_clock c =
    let paired = no_fault c.in_default.ensures.0 in
    let ordered = no_fault c.in_default-first_circular.ensures.0 in
    rw c.refusal_of-in-Some-first_wrong_clock.ensures (by_clock _ c.requires.0.read paired.0 ordered.0 (fault_at c.in-Some-first_wrong_clock.ensures), tt)

pub returns : goal.returns
returns c =
    let paired = no_fault c.in_default.ensures.0 in
    let ordered = no_fault c.in_default-first_circular.ensures.0 in
    let r = c.requires in
    let m = c.first_circular.ensures.1 in
    rw r.2 (
      wholly r.0.read paired.0 ordered.0 (no_fault c.in_default-first_wrong_clock.ensures).0,
      record { listed = m.listed; known = m.known; partners = m.partners; clocks = ordered.1 },
    )
