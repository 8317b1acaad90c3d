use mathlib.Core.Path.{◌≡◌, ap, ◌∙◌}
use Rattle.std.proofs.Common.{rules, Err}
use Prim.Native.Nat.{ℕ}
use lib.ListN.{length, length-replicate}
use Rattle.run.specs.Index.{index_size}
use Rattle.judged.specs.Judged.Judged.{by_pass}
use Rattle.judged.proofs.Verdicts.{refused_by_pass, listed_by_pass}
use Rattle.judging.proofs.whole.judge_run.Goals as goal

pub returns-in_err-head : goal.returns-in_err-head
returns-in_err-head c =
    let stopped : c.from_residual.result ≡ Err c.in_err-head.field-0.0 = search (rules) in
    rw stopped (by_pass _ (refused_by_pass _ c.read_run.ensures c.in_err-head.was), tt)

pub judge_states-requires : goal.judge_states-requires
judge_states-requires c =
    let r = c.requires in
    listed_by_pass _ c.read_run.ensures c.in_ok-head.was (c.read_run.auto.index ∙ ap length r ∙ length-replicate {A = ℕ} index_size 0)
