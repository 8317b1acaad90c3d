-- `lowest_passes` meets its contract: the load is empty, or the lowest stamp of its messages tells.
use borrow.Author.Rules.{rules, sfits_of}
use native.Mathlib.Omega.{arith}
use mathlib.Core.Path.{◌≡◌, ap, ◌∙◌}
use mir.Syntax.{w32}
use mir.Val.{SFits}
use lib.IntN.{ℤ}
use lib.Signed.{le_z}
use Rattle.transit.proofs.Loads.{load_messages}
use Rattle.transit.proofs.Signs.{both}
use Rattle.clause.proofs.Passed.{test_6, test_7}
use Rattle.clause.proofs.channel_tests.lowest_passes.Goals as goal

pub returns-then-test-eq6 : goal.returns-then-test-eq6
returns-then-test-eq6 c =
    let lowest : ℤ = c.in-Some.load.lowest in
    let fits : SFits w32 lowest = search rules in
    let compared = both {a = c.signed_of-x.result} le_z (sfits_of c.signed_of-x.type_inv) fits ∙ ap (λ (x : ℤ). le_z x lowest) c.signed_of-x.ensures in
    λ ms w. compared ∙ test_6 _ ms (load_messages w c.in-Some.is).1 c.if-test-eq6.true

pub returns-else-test-eq6 : goal.returns-else-test-eq6
returns-else-test-eq6 c =
    let lowest : ℤ = c.in-Some.load.lowest in
    let fits : SFits w32 lowest = search rules in
    let seven : c.args.test ≡ 7 = omega arith in
    let compared = both {b = c.signed_of-x.result} le_z fits (sfits_of c.signed_of-x.type_inv) ∙ ap (le_z lowest) c.signed_of-x.ensures in
    λ ms w. compared ∙ test_7 _ ms (load_messages w c.in-Some.is).1 seven
