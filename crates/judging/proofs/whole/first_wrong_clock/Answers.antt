use Rattle.judged.proofs.Firsts.{candidates, first_judged}
use Rattle.judging.proofs.whole.first_wrong_clock.Goals as goal

pub earliest-requires : goal.earliest-requires
earliest-requires c =
    let r = c.requires in
    candidates r.listed c.clock_faults.auto.bad r.all c.clock_faults.ensures

pub returns : goal.returns
returns c =
    let r = c.requires in
    first_judged _ r.listed.read _ _ _ r.all c.clock_faults.ensures (λ z. tt) _ c.earliest.ensures
