-- `satisfies_at` meets its contract: at each way out, what the tests of the cut and of the clauses gave.
use mathlib.Core.Path.{◌≡◌, ap, subst}
use mathlib.Core.Logic.{◌↔◌}
use mathlib.Core.Bool.{true}
use Rattle.std.proofs.lemmas.Result.{err_from_is_err_and}
use Rattle.model.specs.Clause.{Satisfies}
use Rattle.run.specs.Said.{run_in}
use Rattle.search.proofs.Prepared.{given, clauses_are}
use Rattle.questions.specs.Questions.{AskedSatisfies}
use Rattle.questions.proofs.Asked.{satisfies_answers}
use Rattle.questions.proofs.satisfaction.satisfies_at.Goals as goal

pub given_cut-requires : goal.given_cut-requires
given_cut-requires c = c.requires.0

pub returns-in_err-given_cut : goal.returns-in_err-given_cut
returns-in_err-given_cut c =
    let r = c.requires in
    let p = err_from_is_err_and c.from_residual.result c.from_residual.ensures.1 in
    rw (p.1, p.2, c.in_err-given_cut.ensures.0) (AskedSatisfies.not_cut r.0.accepted r.1.condition c.in_err-given_cut.ensures.1)

pub satisfied-requires : goal.satisfied-requires
satisfied-requires c = let r = c.requires in (c.in_ok-given_cut.ensures, ap (λ h. h.channels) r.0.head)

pub invariant_of-sought : goal.invariant_of-sought
invariant_of-sought c = given c.requires.1

pub returns : goal.returns
returns c =
    let r = c.requires in
    let a = c.args in
    satisfies_answers r.0.accepted c.in_ok-given_cut.ensures r.1.condition
    (subst (λ k. (c.satisfied.result ≡ true) ↔ Satisfies (run_in a.run.now.run) k a.cut.now) (clauses_are r.1) c.satisfied.ensures)
