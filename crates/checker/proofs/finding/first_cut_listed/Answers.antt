-- `first_cut_listed` meets its contract: a refused run leaves all places as they were, an accepted one comes with its index.
use mathlib.Core.Path.{◌≡◌}
use Rattle.std.proofs.Common.{rules, Err}
use Rattle.judged.proofs.Told.{judged_refused, judged_accepted}
use Rattle.checker.proofs.Channels.{run-refused}
use Rattle.checker.proofs.finding.first_cut_listed.Goals as goal

pub listed_for-requires : goal.listed_for-requires
listed_for-requires c = judged_accepted _ _ c.judge_run.ensures c.in_ok-head.was

pub returns-in_err-head : goal.returns-in_err-head
returns-in_err-head c =
    let stopped : c.from_residual.result ≡ Err c.in_err-head.field-0.0 = search (rules) in
    rw stopped (run-refused (judged_refused _ _ c.judge_run.ensures.0 c.in_err-head.was))
