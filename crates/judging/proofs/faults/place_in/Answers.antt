use native.Mathlib.Omega.{arith}
use mathlib.Core.Path.{ap, ◌∙◌}
use Rattle.std.specs.Prelude.{Some}
use Rattle.run.proofs.Listed.{listed_eight, listed_slot, listed_at}
use Rattle.judging.proofs.faults.place_in.Goals as goal

pub bounds-bad-p : goal.bounds-bad-p
bounds-bad-p c = let r = c.requires in omega (arith, listed_eight _ _ r.listed _ r.process)

pub place_of-requires : goal.place_of-requires
place_of-requires c =
    let r = c.requires in
    let slot = listed_slot _ _ r.listed (rw c.in_ok-k.was at r.there) in
    (r.listed.long, record { process = omega arith; counted = slot.counted; few = slot.few })

pub returns : goal.returns
returns c =
    let r = c.requires in
    rw c.in_ok-k.was (ap Some (c.place_of.ensures ∙ listed_at _ _ r.listed _ _ (rw c.in_ok-k.was at r.there)))
