-- `empty_passes` meets its contract: of no message each test computes, whatever its operand.
use native.Mathlib.Omega.{arith}
use mathlib.Core.Path.{◌≡◌, refl}
use Rattle.condition.specs.Clauses.{test_of}
use Rattle.clause.proofs.channel_tests.empty_passes.Goals as goal

pub returns-in-4 : goal.returns-in-4
unfolding test_of
returns-in-4 c = λ x. rw c.in-4.is refl

pub returns-in-5 : goal.returns-in-5
unfolding test_of
returns-in-5 c = λ x. rw c.in-5.is refl

pub returns-in-6 : goal.returns-in-6
unfolding test_of
returns-in-6 c = λ x. rw c.in-6.is refl

pub returns-in_default : goal.returns-in_default
unfolding test_of
returns-in_default c =
    let seven : c.args.test ≡ 7 = omega arith in
    λ x. rw seven refl
