-- `check_opening` meets its contract: a right frame has the bytes that the rest of the chain reads, and a number that no kind has may stand nowhere.
use native.Mathlib.Omega.{arith}
use mathlib.Core.Path.{◌≡◌, sym, ◌∙◌}
use Rattle.std.proofs.Common.{rules, Err}
use Rattle.record.specs.Kind.{NamesKind}
use Rattle.record.proofs.Laws.{Framed, framed, kindless}
use Rattle.record.proofs.reading.check_opening.Goals.{In_ok-check_frame}
use Rattle.record.proofs.reading.check_opening.Goals as goal

frame : (c : In_ok-check_frame) → Framed c.args.run.now c.args.at
frame c = framed _ _ (sym c.check_frame.ensures ∙ c.in_ok-check_frame.was)

pub u16_at-length-requires : goal.u16_at-length-requires
u16_at-length-requires c = let w = frame (goal.at.u16_at-length-requires c).In_ok-check_frame in omega (arith, w.long, w.whole)

pub overflow_add-at : goal.overflow_add-at
overflow_add-at c = let w = frame (goal.at.overflow_add-at c).In_ok-check_frame in record { fits = omega (arith, w.long, w.whole) }

pub u16_at-requires : goal.u16_at-requires
u16_at-requires c = let w = frame (goal.at.u16_at-requires c).In_ok-check_frame in omega (arith, w.long, w.whole)

pub returns-in_err-kind : goal.returns-in_err-kind
returns-in_err-kind c =
    let stopped : c.from_residual-in_err-kind.result ≡ Err c.in_err-kind.field-0.0 = search (rules) in
    let none : NamesKind c.u16_at.result (Err c.in_err-kind.field-0.0) = search (rules) in
    stopped ∙ kindless _ _ (sym c.check_frame.ensures ∙ c.in_ok-check_frame.was) (rw c.u16_at.ensures at none)
