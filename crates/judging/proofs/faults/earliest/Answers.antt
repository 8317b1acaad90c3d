-- `earliest` meets its contract: what the chain gives is the least of the processes' places.
use mathlib.Core.Path.{sym, ◌∙◌}
use native.Mathlib.Omega.{arith}
use Rattle.std.proofs.Common.{rules}
use Rattle.std.proofs.lemmas.Iterator.{YieldsList-from_range}
use Rattle.std.proofs.lemmas.Iterator.Adapters.{option_map_id}
use Rattle.std.proofs.lemmas.Iterator.Consumers.{YieldsList-from_filter_map, min_from_yields_List}
use Rattle.judged.proofs.Firsts.{place_in, earliest_least}
use Rattle.judging.proofs.faults.earliest.Goals as goal

pub returns : goal.returns
returns c =
    let a = c.args in
    let least = min_from_yields_List _ _ c.min.ensures.ran (YieldsList-from_filter_map _ (place_in a.run.now a.bad.now) (YieldsList-from_range 0 a.n a.n c.filter_map.ensures.source (omega arith)) c.filter_map.ensures.closure (λ x r q k. search rules)) in
    rw (sym (option_map_id _) ∙ least) (earliest_least a.run.now a.bad.now a.n)
