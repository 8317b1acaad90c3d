-- `consistent_in` meets its contract: at each way out, what the tests of the cut and of its clocks gave.
use mathlib.Core.Path.{subst}
use Rattle.std.proofs.Common.{Ok}
use Rattle.std.proofs.lemmas.Result.{err_from_is_err_and}
use Rattle.cut.proofs.Low.{cut_in_table}
use Rattle.questions.specs.Questions.{AskedConsistent}
use Rattle.questions.proofs.Cuts.{as_inside, cut_inside}
use Rattle.questions.proofs.Asked.{consistent_answers}
use Rattle.questions.proofs.consistency.consistent_in.Goals as goal

pub returns-in_err-given_cut : goal.returns-in_err-given_cut
returns-in_err-given_cut c =
    let r = c.requires in
    let p = err_from_is_err_and c.from_residual.result c.from_residual.ensures.1 in
    rw (p.1, p.2, c.in_err-given_cut.ensures.0) (AskedConsistent.not_cut r.accepted c.in_err-given_cut.ensures.1)

pub consistent-requires : goal.consistent-requires
consistent-requires c =
    let r = as_inside c.run.view_is c.requires in
    (r.index.listed.long, cut_in_table r.index _ (cut_inside c.run.view_is c.in_ok-given_cut.ensures))

pub returns : goal.returns
returns c =
    let r = as_inside c.run.view_is c.requires in
    let chosen = cut_inside c.run.view_is c.in_ok-given_cut.ensures in
    subst (λ v. AskedConsistent v.run c.args.cut.now (Ok c.consistent.result)) c.run.view_is
    (consistent_answers r.accepted chosen (c.consistent.ensures _ r.index.clocks chosen))
