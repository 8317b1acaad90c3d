use borrow.Author.Rules.{rules}
use mathlib.Core.Path.{refl}
use mir.Syntax.{w32}
use mir.Val.{SFits}
use mir.Facts.{to_z-of_z}
use Rattle.cut.specs.Entered.{with_lowest}
use Rattle.cut.proofs.listing.enter.Goals as goal

pub returns-in_default : goal.returns-in_default
unfolding with_lowest
returns-in_default c = rw c.in_default.is refl

pub returns-in-Some : goal.returns-in-Some
unfolding with_lowest
returns-in-Some c =
    let fits : SFits w32 c.in-Some.load.lowest = search rules in
    rw (to_z-of_z fits, c.in-Some.is) refl
