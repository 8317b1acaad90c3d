use Rattle.std.proofs.Common.{rules}
use Rattle.model.specs.Run.{IsState}
use Rattle.run.specs.Said.{run_in}
use Rattle.run.proofs.Listed.{listed_slot}
use Rattle.run.proofs.indexed.Indexed.clock.Goals as goal

pub clock_of-requires : goal.clock_of-requires
clock_of-requires c =
    let w = c.self.invariant.listed in
    let there : IsState (run_in c.self.inside.run.now) c.args.p c.args.k = search (rules, c.self.view_is) in
    (w.long, listed_slot _ _ w there)
