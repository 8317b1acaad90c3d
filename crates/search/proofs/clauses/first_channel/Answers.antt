-- `first_channel` meets its contract: where none of the clauses names anybody they hold, else the one that does is false.
use Rattle.std.proofs.Common.{rules, tests, sym, subst, ◌∙◌, false}
use Rattle.std.proofs.lemmas.Iterator.{YieldsList-from_slice}
use Rattle.std.proofs.lemmas.Iterator.Adapters.{serves_from_places}
use Rattle.std.proofs.lemmas.Grind.{get_or_default_zero}
use Rattle.record.specs.Record.{head_of}
use Rattle.run.specs.Said.{run_in}
use Rattle.condition.specs.Clauses.{clauses_of}
use Rattle.condition.specs.Known.{ClauseKnown}
use Rattle.search.specs.Search.{Counted, KindTested}
use Rattle.search.specs.Sought.{SoughtSeen}
use Rattle.search.proofs.Moving.{FirstTried, first_tried}
use Rattle.search.proofs.clauses.first_channel.Goals as goal

pub find_map-requires-clause-callable : goal.find_map-requires-clause-callable
find_map-requires-clause-callable c =
    let i = c.sought.inside in
    let counted : Counted c.sought.inside.run.now.run c.args.cut.now c.args.counts.now = search (rules, c.sought.view_is, c.requires) in
    serves_from_places (YieldsList-from_slice i.clauses.now (cc)) (λ x q k. search (rules, tests)) (λ x k h e.
    let known : ClauseKnown i.cond.now (head_of i.run.now.run) x.now = subst (ClauseKnown i.cond.now (head_of i.run.now.run)) (sym (e ∙ get_or_default_zero _ k x.now h)) (c.sought.invariant.known.clauses k h) in
    search rules)

pub returns : goal.returns
returns c =
    let i = c.sought.inside in
    let told : FirstTried i.run.now.run i.cond.now i.clauses.now c.args.cut.now false c.find_map.result = search rules in
    subst (λ (v : SoughtSeen). KindTested (run_in v.run) (clauses_of v.cond v.clauses) c.args.cut.now false c.find_map.result) c.sought.view_is (first_tried c.sought.invariant _ told)
