-- `check_step` meets its contract: behind a right opening only a head has a format.
use native.Mathlib.Omega.{arith}
use mathlib.Core.Path.{sym, ◌∙◌}
use Prim.Native.Nat.{◌+◌, ◌≤◌}
use borrow.Author.Tests.{ne_eqb}
use lib.ListN.{length}
use Rattle.record.specs.Layout.{head_length}
use Rattle.record.specs.Record.{length_of, check_step}
use Rattle.record.specs.Refusal.{refuse_if}
use Rattle.record.proofs.Laws.{opened, opened_whole}
use Rattle.record.proofs.reading.check_step.Goals as goal

pub overflow_add-at : goal.overflow_add-at
overflow_add-at c =
    let o = opened _ _ (sym c.check_opening.ensures ∙ c.in_ok-check_opening.was) in record { fits = omega (arith, o.frame.long, o.frame.whole) }

pub u16_at-requires : goal.u16_at-requires
u16_at-requires c =
    let o = opened _ _ (sym c.check_opening.ensures ∙ c.in_ok-check_opening.was) in omega (arith, o.frame.long, o.frame.whole)

pub returns-then-u16_at-ne1 : goal.returns-then-u16_at-ne1
unfolding check_step refuse_if
returns-then-u16_at-ne1 c =
    let right = sym c.check_opening.ensures ∙ c.in_ok-check_opening.was in
    simp (right, ne_eqb _ _ (λ z. c.if-u16_at-ne1.true (c.u16_at.ensures ∙ z)))

pub overflow_add-at-2 : goal.overflow_add-at-2
unfolding length_of
overflow_add-at-2 c =
    let right = sym c.check_opening.ensures ∙ c.in_ok-check_opening.was in
    let whole : c.args.at + head_length ≤ length c.args.run.now = opened_whole _ _ 1 (right) (sym c.u16_at.ensures ∙ c.if-u16_at-ne1.false) in
    record { fits = omega (arith, whole) }

pub u16_at-requires-2 : goal.u16_at-requires-2
unfolding length_of
u16_at-requires-2 c =
    let right = sym c.check_opening.ensures ∙ c.in_ok-check_opening.was in
    let whole : c.args.at + head_length ≤ length c.args.run.now = opened_whole _ _ 1 (right) (sym c.u16_at.ensures ∙ c.if-u16_at-ne1.false) in
    omega (arith, whole)

pub returns : goal.returns
unfolding check_step
returns c =
    let right = sym c.check_opening.ensures ∙ c.in_ok-check_opening.was in
    let kind = sym c.u16_at.ensures ∙ c.if-u16_at-ne1.false in
    rw (c.refuse_if.ensures, c.u16_at-2.ensures, right, kind)
