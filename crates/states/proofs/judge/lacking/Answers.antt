use mathlib.Core.Path.{◌≡◌, sym, ◌∙◌}
use lib.Dec.{eqb}
use lib.ListN.{take}
use Rattle.std.specs.List.{list_any}
use Rattle.std.proofs.Common.{rules}
use Rattle.states.proofs.Laws.{lacks_any}
use Rattle.states.proofs.judge.lacking.Goals as goal

pub returns : goal.returns
returns c =
    let found : c.contains.result ≡ list_any (λ count. eqb count 0) (take c.args.n c.args.counts.now) = search (rules, c.contains.ensures.value) in
    found ∙ sym (lacks_any _ _ c.requires)
