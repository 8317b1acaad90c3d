use mathlib.Core.Path.{◌≡◌, refl}
use Rattle.std.proofs.Common.{rules, Err}
use Rattle.judged.proofs.Told.{judged_refused, judged_accepted}
use Rattle.questions.specs.Questions.{AskedEach}
use Rattle.questions.proofs.listing.messages_on_each.Goals as goal

pub list_in-requires : goal.list_in-requires
list_in-requires c = judged_accepted _ _ c.judge_run.ensures c.in_ok-head.was

pub returns-in_err-head : goal.returns-in_err-head
returns-in_err-head c =
    let stopped : c.from_residual.result ≡ Err c.in_err-head.field-0.0 = search (rules) in
    rw stopped (AskedEach.run_refused _ (judged_refused _ _ c.judge_run.ensures.0 c.in_err-head.was) refl refl)
