-- `check_frame` meets its contract: behind the first test there are two bytes of a length.
use native.Mathlib.Omega.{arith}
use mathlib.Core.Path.{sym, ◌∙◌}
use borrow.Author.Tests.{ltb-false}
use Rattle.record.proofs.Laws.{refuse_if_ok}
use Rattle.record.proofs.reading.check_frame.Goals as goal

pub u16_at-length-requires : goal.u16_at-length-requires
u16_at-length-requires c =
    let long = ltb-false _ _ (refuse_if_ok _ _ (sym c.refuse_if.ensures ∙ c.in_ok-refuse_if.was)) in
    omega (arith, c.left_from-left.ensures, long)
