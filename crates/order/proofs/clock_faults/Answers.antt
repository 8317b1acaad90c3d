-- `clock_faults` meets its contract. The invariant of its loop: the processes below p have their entry.
use native.Mathlib.Omega.{arith}
use mathlib.Core.Path.{◌∙◌}
use lib.ListN.{length-set}
use Rattle.run.proofs.Listed.{ok}
use Rattle.judged.proofs.Firsts.{firsts_start, firsts_next}
use Rattle.order.proofs.clock_faults.Goals as goal

pub loop-p-init : goal.loop-p-init
loop-p-init c =
    let r = c.requires in
    (omega (arith, r.0.all, (ok _ r.0.listed.read).head.few), r.1, firsts_start _ _ _)

pub loop-p-preserved : goal.loop-p-preserved
loop-p-preserved c =
    let l = c.loop-p in
    let i = l.invariant in
    (i.0, length-set l.bad _ _ ∙ i.1, firsts_next _ _ _ _ _ (omega (arith, i.0, i.1, c.loop-p-test.true)) i.2 c.clock_fault.ensures)
