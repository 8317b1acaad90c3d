-- `given_cut` meets its contract, by the index of the accepted run.
use mathlib.Core.Path.{ap, ◌∙◌, subst}
use mathlib.Core.Path.{sym}
use Rattle.model.proofs.Numbers.{never}
use Rattle.model.specs.Cut.{IsCut}
use Rattle.run.specs.Said.{run_in}
use Rattle.questions.proofs.Cuts.{testable, as_inside}
use Rattle.questions.proofs.given.given_cut.Goals as goal

pub is_cut-requires : goal.is_cut-requires
is_cut-requires c = testable (as_inside c.run.view_is c.requires)

pub returns-then-not-is_cut : goal.returns-then-not-is_cut
returns-then-not-is_cut c =
    let r = as_inside c.run.view_is c.requires in (
      c.refusal_of.ensures,
      subst (λ v. ¬ IsCut (run_in v.run) c.args.cut.now) c.run.view_is
          (λ k. let e = sym c.if-not-is_cut.true ∙ (c.is_cut.ensures _ r.index.listed (ap (λ h. h.processes) r.head)).1 k in never (cc)),
    )

pub returns : goal.returns
returns c =
    let r = as_inside c.run.view_is c.requires in
    subst (λ v. IsCut (run_in v.run) c.args.cut.now) c.run.view_is ((c.is_cut.ensures _ r.index.listed (ap (λ h. h.processes) r.head)).0 c.if-not-is_cut.false)
