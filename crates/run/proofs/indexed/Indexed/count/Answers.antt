use mathlib.Core.Path.{ap, ◌∙◌}
use Prim.Native.Nat.{◌<◌}
use Rattle.std.proofs.Common.{rules}
use Rattle.model.specs.Run.{count}
use Rattle.record.specs.Record.{head_of}
use Rattle.run.specs.Said.{run_in}
use Rattle.run.proofs.Listed.{listed_count, listed_eight}
use Rattle.run.proofs.indexed.Indexed.count.Goals as goal

pub count_of-requires : goal.count_of-requires
count_of-requires c =
    let w = c.self.invariant.listed in
    let there : c.args.p < (head_of c.self.inside.run.now).processes = search (rules, c.self.view_is) in
    (w.long, listed_eight _ _ w _ there)

pub returns : goal.returns
returns c =
    let there : c.args.p < (head_of c.self.inside.run.now).processes = search (rules, c.self.view_is) in
    c.count_of.ensures ∙ listed_count _ _ c.self.invariant.listed _ there ∙ ap (λ v. count (run_in v.run) c.args.p) c.self.view_is
