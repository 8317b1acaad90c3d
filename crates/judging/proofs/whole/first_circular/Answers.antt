-- `first_circular` meets its contract: it rests on what the ordering leaves, and on the first states that aren't done.
use native.Mathlib.Omega.{arith}
use mathlib.Core.Path.{refl}
use Prim.Native.Nat.{◌<◌}
use Rattle.record.specs.Record.{head_of}
use Rattle.run.proofs.Listed.{ok, listed_few, listed_count}
use Rattle.judged.proofs.Firsts.{candidates}
use Rattle.judged.proofs.Verdicts.{circle_firsts, circle_judged}
use Rattle.judging.proofs.whole.first_circular.Goals as goal

pub undone-requires : goal.undone-requires
undone-requires c =
    let all = c.requires.1 in
    let w = c.order_all.ensures.1.listed in record {
      long = w.long;
      eight_done = c.order_all.auto.done;
      eight_bad = refl;
      few = omega (arith, all, (ok _ w.read).head.few);
      counts = λ p h.
          let q : p < (head_of c.args.run.now).processes = omega (arith, all) in
          omega (arith, listed_count _ _ w p q, listed_few _ _ w p q);
    }

pub earliest-requires : goal.earliest-requires
earliest-requires c =
    let all = c.requires.1 in
    let m = c.order_all.ensures in
    candidates m.1.listed c.undone.auto.bad all (circle_firsts _ _ _ _ _ m.1.listed all m.0 c.undone.ensures)

pub returns : goal.returns
returns c =
    let m = c.order_all.ensures in
    (circle_judged _ _ _ _ _ m.1.listed c.requires.1 m.0 c.undone.ensures _ c.earliest.ensures, m.1)
