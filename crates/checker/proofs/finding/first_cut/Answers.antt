use mathlib.Core.Path.{◌≡◌, refl}
use Rattle.std.proofs.Common.{rules, Err}
use Rattle.checker.specs.Answered.Answered.{run_refused}
use Rattle.judged.proofs.Told.{judged_refused, judged_accepted}
use Rattle.checker.proofs.finding.first_cut.Goals as goal

pub with_condition-requires : goal.with_condition-requires
with_condition-requires c = judged_accepted _ _ c.judge_run.ensures c.in_ok-head.was

pub returns-in_err-head : goal.returns-in_err-head
returns-in_err-head c =
    let stopped : c.from_residual.result ≡ Err c.in_err-head.field-0.0 = search (rules) in
    rw stopped (run_refused _ (judged_refused _ _ c.judge_run.ensures.0 c.in_err-head.was) refl)
