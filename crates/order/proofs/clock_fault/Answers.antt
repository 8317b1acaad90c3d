-- `clock_fault` meets its contract: what the closure answers at a state is whether its clock is wrong.
use native.Mathlib.Omega.{arith}
use mathlib.Core.Path.{◌≡◌, refl, ◌∙◌}
use mathlib.Core.Bool.{true, false}
use Rattle.std.proofs.Common.{rules}
use Rattle.std.proofs.iter.Serving.{serving}
use Rattle.std.proofs.lemmas.Iterator.{first_from_Range}
use Rattle.model.specs.Run.{count}
use Rattle.run.specs.Said.{run_in}
use Rattle.judged.specs.Judged.{WrongClock}
use Rattle.judged.specs.Order.{Compared}
use Rattle.judged.proofs.Firsts.{first_of_found}
use Rattle.judged.proofs.Processes.{row_of}
use Rattle.order.proofs.clock_fault.Goals as goal

pub count_of-requires : goal.count_of-requires
count_of-requires c =
    let (w, h) = c.requires in
    let row = row_of w.listed w.all h in
    (w.listed.long, row.eight)

pub find-requires-clause-callable : goal.find-requires-clause-callable
find-requires-clause-callable c =
    let (w, h) = c.requires in
    let row = row_of w.listed w.all h in
    let counted : c.count_of.result ≡ count (run_in c.args.run.now) c.args.p = c.count_of.ensures ∙ row.counted in
    grind serving

pub returns : goal.returns
returns c =
    let (w, h) = c.requires in
    let s = c.args.run.now in
    let p = c.args.p in
    let row = row_of w.listed w.all h in
    first_of_found s (WrongClock s) p _ (c.count_of.ensures ∙ row.counted) _ (first_from_Range _ _ _ _ (WrongClock s p) (λ k. ¬ WrongClock s p k) c.find.ensures.ran
    (λ x r k. let d : Compared s p x true = search rules in d.differs refl)
    (λ x r k. let d : Compared s p x false = search rules in (search rules, d.agrees refl)))

pub overflow_add-count_of : goal.overflow_add-count_of
overflow_add-count_of c =
    let (w, h) = c.requires in
    let row = row_of w.listed w.all h in
    omega (arith, c.count_of.ensures, row.counted, row.few)
