-- `pair_all` meets its contract. The invariant of its loop: the processes below p are paired.
use native.Mathlib.Omega.{arith}
use mathlib.Core.Path.{refl, ◌∙◌}
use lib.ListN.{length-set}
use Rattle.judged.proofs.Partners.{processes_start, processes_next}
use Rattle.run.proofs.Listed.{ok}
use Rattle.pairing.proofs.pair_all.Goals as goal

pub loop-p-init : goal.loop-p-init
loop-p-init c =
    let (n, eight) = c.requires in
    (omega (arith, n.all, (ok _ n.listed.read).head.few), eight, record { marked = refl; hinted = refl }, n.listed, processes_start _ _ _ n.fresh)

pub loop-p-preserved : goal.loop-p-preserved
loop-p-preserved c =
    let l = c.loop-p in
    let i = l.invariant in
    let e = c.pair_row in (
      i.0,
      length-set l.bad _ _ ∙ i.1,
      record { marked = e.auto.marks ∙ i.2.marked; hinted = e.auto.hints ∙ i.2.hinted },
      e.ensures.listed,
      processes_next _ _ _ _ _ _ (omega (arith, c.loop-p-test.true, i.0, i.1)) i.4 e.ensures.process_paired,
    )
