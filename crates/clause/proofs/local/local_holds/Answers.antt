-- `local_holds` meets its contract: the value stands in the bytes where the index has its state.
use borrow.Author.Rules.{rules, sfits_of}
use native.Mathlib.Omega.{arith}
use mathlib.Core.Path.{◌≡◌, ap, ◌∙◌}
use Prim.Native.Nat.{◌+◌, ◌≤◌}
use lib.IntN.{ℤ}
use lib.ListN.{length}
use Rattle.model.specs.Clause.{compares}
use Rattle.record.specs.Bytes.{i32_at}
use Rattle.record.specs.Layout.{value_place}
use Rattle.run.specs.Said.{place_of}
use Rattle.run.specs.Seen.{Seen}
use Rattle.condition.specs.Clauses.{comparison_of}
use Rattle.transit.proofs.Signs.{both}
use Rattle.transit.proofs.Stored.{holds_seen, value_whole, value_is}
use Rattle.clause.proofs.local.local_holds.Goals.{After-value_place}
use Rattle.clause.proofs.local.local_holds.Goals as goal

whole_seen : (c : After-value_place) → place_of c.args.run.now.run c.args.process c.args.k + value_place c.args.value + 4 ≤ length c.run.inside.run.now
whole_seen c = search (rules, c.run.view_is, value_whole (holds_seen c.run.invariant c.run.view_is) _ _ c.requires.0 _ c.requires.1)

pub overflow_add-at : goal.overflow_add-at
overflow_add-at c = record { fits = omega (arith, c.place.ensures, c.value_place.ensures, whole_seen (goal.at.overflow_add-at c).After-value_place, c.run.told.0.0) }

pub i32_at-held-requires : goal.i32_at-held-requires
i32_at-held-requires c = omega (arith, c.place.ensures, c.value_place.ensures, whole_seen (goal.at.i32_at-held-requires c).After-value_place)

pub returns : goal.returns
returns c =
    let a = c.args in
    let there : c.place.result + c.value_place.result ≡ place_of a.run.now.run a.process a.k + value_place a.value = omega (arith, c.place.ensures, c.value_place.ensures) in
    let o = comparison_of c.args.comparison in
    let value = c.i32_at-held.ensures ∙ ap (λ (v : Seen). i32_at v.run (c.place.result + c.value_place.result)) c.run.view_is ∙ ap (i32_at a.run.now.run) there ∙ value_is (holds_seen c.run.invariant c.run.view_is) _ _ c.requires.0 _ c.requires.1 in
    c.compares.ensures ∙ both (compares o) (sfits_of c.i32_at-held.type_inv) c.ranges.constant ∙ ap (λ (z : ℤ). compares o z c.args.constant) value
