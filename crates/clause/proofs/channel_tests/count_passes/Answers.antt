-- `count_passes` meets its contract: each of tests 1 to 3 by the number of messages.
use native.Mathlib.Omega.{arith}
use mathlib.Core.Path.{◌≡◌}
use Rattle.clause.proofs.Passed.{test_1, test_2, test_3}
use Rattle.clause.proofs.channel_tests.count_passes.Goals as goal

pub returns-in-1 : goal.returns-in-1
returns-in-1 c = λ ms e. test_1 _ ms _ e c.in-1.is

pub returns-in-2 : goal.returns-in-2
returns-in-2 c = λ ms e. test_2 _ ms _ e c.in-2.is

pub returns-in_default : goal.returns-in_default
returns-in_default c =
    let three : c.args.test ≡ 3 = omega arith in
    λ ms e. test_3 _ ms _ e three
