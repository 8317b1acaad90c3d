-- `first_unpaired` meets its contract: it rests on what the pairing of all processes leaves.
use Rattle.judged.proofs.Firsts.{candidates}
use Rattle.judged.proofs.Verdicts.{pairing_firsts, pairing_judged}
use Rattle.judging.proofs.whole.first_unpaired.Goals as goal

pub earliest-requires : goal.earliest-requires
earliest-requires c =
    let r = c.requires in
    candidates c.pair_all.ensures.listed c.pair_all.auto.bad r.all (pairing_firsts _ r.listed.read _ _ _ r.all c.pair_all.ensures.processes_paired)

pub returns : goal.returns
returns c =
    let r = c.requires in
    (pairing_judged _ r.listed.read _ _ _ r.all c.pair_all.ensures.processes_paired _ c.earliest.ensures, c.pair_all.ensures.listed)
