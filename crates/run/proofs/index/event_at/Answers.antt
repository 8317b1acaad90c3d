use native.Mathlib.Omega.{arith}
use mathlib.Core.Path.{ap, ◌∙◌}
use Rattle.record.specs.Record.{state_fields_at}
use Rattle.states.specs.States.{event_of}
use Rattle.run.proofs.Listed.{listed_slot, listed_whole, listed_event}
use Rattle.run.proofs.index.event_at.Goals as goal

pub place_of-place-requires : goal.place_of-place-requires
place_of-place-requires c = let r = c.requires in (r.0.long, listed_slot _ _ r.0 r.1)

pub state_at-requires : goal.state_at-requires
state_at-requires c = let r = c.requires in omega (arith, c.place_of-place.ensures, listed_whole _ _ r.0 _ _ r.1)

pub returns : goal.returns
returns c =
    let r = c.requires in
    let said = ap (λ x. x.event) c.state_at.ensures in
    let place = ap (λ q. event_of (state_fields_at c.args.run.now q)) c.place_of-place.ensures in
    said ∙ place ∙ listed_event _ _ r.0 _ _ r.1
