use Rattle.std.proofs.Common.{rules, tests, refl, arith, ap, ◌∙◌, ◌+◌}
use Rattle.std.proofs.lemmas.Iterator.{serves_from_Range, YieldsList-from_range}
use Rattle.std.proofs.lemmas.Iterator.Search.{any_from_yields_List}
use Rattle.model.specs.Clause.{some_of, same_z}
use Rattle.model.specs.Run.{IsState}
use Rattle.run.specs.Said.{run_in}
use Rattle.transit.proofs.Between.{one_more, some_between, span_state, span_transit}
use Rattle.transit.proofs.scan.has_stamp.Goals as goal

pub any-requires-clause-callable : goal.any-requires-clause-callable
any-requires-clause-callable c =
    let there = c.span_of-span.ensures.1 in
    serves_from_Range (λ x q k. search (rules, tests))
    (λ x low high. let is : IsState (run_in c.args.run.now.run) c.span_of-span.result.from (x + 1) = span_state there (omega arith) (omega arith) in search (rules, there.own, is))

pub returns : goal.returns
returns c =
    let span = c.span_of-span.result in
    let f = one_more (run_in c.args.run.now.run) span.channel span.received (λ m. same_z m.stamp c.args.stamp) in
    any_from_yields_List f _ _ c.any.result c.any.ensures.ran (YieldsList-from_range 0 span.sent span.sent refl (omega arith)) (λ x b q k. search (rules, tests))
    ∙ some_between _ _ _ _ span.sent
    ∙ ap (some_of (λ m. same_z m.stamp c.args.stamp)) (span_transit c.span_of-span.ensures.1 _ _ c.span_of-span.ensures.0)
