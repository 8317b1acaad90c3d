-- `too_low` meets its contract: the first that `behind` names.
use Rattle.std.proofs.Common.{None, Some}
use native.Mathlib.Omega.{arith}
use mathlib.Core.Path.{sym, ◌∙◌}
use Rattle.cut.specs.Clocks.{too_low}
use Rattle.cut.proofs.First.{first_sought}
use Rattle.cut.proofs.clocks.too_low.Goals as goal

pub returns-in-Some : goal.returns-in-Some
unfolding too_low
returns-in-Some c = first_sought _ _ (Some c.in-Some.i) (c.loop-j.j, c.loop-j-test.true, sym c.behind.ensures ∙ c.in-Some.is, c.loop-j.invariant)

pub returns : goal.returns
unfolding too_low
returns c = first_sought _ _ None (λ i h. c.loop-j.invariant i (omega arith))
