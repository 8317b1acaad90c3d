use mathlib.Core.Path.{ap, ◌∙◌}
use Rattle.std.proofs.Common.{rules}
use Rattle.model.specs.Run.{IsState}
use Rattle.run.specs.Said.{run_in, place_of}
use Rattle.run.proofs.Listed.{listed_slot, listed_at}
use Rattle.run.proofs.indexed.Indexed.place.Goals as goal

pub place_of-requires : goal.place_of-requires
place_of-requires c =
    let w = c.self.invariant.listed in
    let there : IsState (run_in c.self.inside.run.now) c.args.p c.args.k = search (rules, c.self.view_is) in
    (w.long, listed_slot _ _ w there)

pub returns : goal.returns
returns c =
    let there : IsState (run_in c.self.inside.run.now) c.args.p c.args.k = search (rules, c.self.view_is) in
    c.place_of.ensures ∙ listed_at _ _ c.self.invariant.listed _ _ there ∙ ap (λ v. place_of v.run c.args.p c.args.k) c.self.view_is
