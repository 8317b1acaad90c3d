-- `compares` meets its contract: each comparison as the definition has it, of numbers that come back from their bits.
use borrow.Author.Rules.{rules}
use native.Mathlib.Omega.{arith}
use mathlib.Core.Path.{◌≡◌, ap, ◌∙◌}
use mathlib.Core.Bool.{not}
use borrow.Author.Tests.{ne_eqb}
use lib.Dec.{eqb}
use lib.Signed.{le_z}
use mir.Syntax.{w32}
use mir.Val.{of_z}
use Rattle.std.specs.Ordering.{int_eq}
use Rattle.condition.specs.Clauses.{comparison_of}
use Rattle.transit.proofs.Signs.{both, same_int}
use Rattle.clause.proofs.compare.compares.Goals as goal

pub returns-in-1 : goal.returns-in-1
unfolding comparison_of
returns-in-1 c =
    let same : eqb (of_z w32 c.args.value) (of_z w32 c.args.x) ≡ int_eq c.args.value c.args.x = search rules in
    same ∙ same_int c.args.value c.args.x ∙ simp c.in-1.is

pub returns-in-2 : goal.returns-in-2
unfolding comparison_of
returns-in-2 c =
    let same : eqb (of_z w32 c.args.value) (of_z w32 c.args.x) ≡ int_eq c.args.value c.args.x = search rules in
    ap not (same ∙ same_int c.args.value c.args.x) ∙ simp c.in-2.is

pub returns-in-3 : goal.returns-in-3
unfolding comparison_of
returns-in-3 c = both le_z c.ranges.value c.ranges.x ∙ simp c.in-3.is

pub returns-in_default : goal.returns-in_default
unfolding comparison_of
returns-in_default c =
    let n = c.args.comparison in
    both le_z c.ranges.x c.ranges.value ∙ simp (ne_eqb n 1 (omega arith), ne_eqb n 2 (omega arith), ne_eqb n 3 (omega arith))
