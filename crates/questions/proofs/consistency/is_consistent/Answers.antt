use mathlib.Core.Path.{◌≡◌}
use Rattle.std.proofs.Common.{rules, Err}
use Rattle.judged.proofs.Told.{judged_refused, judged_accepted}
use Rattle.questions.specs.Questions.{AskedConsistent}
use Rattle.questions.proofs.consistency.is_consistent.Goals as goal

pub consistent_in-requires : goal.consistent_in-requires
consistent_in-requires c = judged_accepted _ _ c.judge_run.ensures c.in_ok-head.was

pub returns-in_err-head : goal.returns-in_err-head
returns-in_err-head c =
    let stopped : c.from_residual.result ≡ Err c.in_err-head.field-0.0 = search (rules) in
    rw stopped (AskedConsistent.run_refused _ (judged_refused _ _ c.judge_run.ensures.0 c.in_err-head.was))
