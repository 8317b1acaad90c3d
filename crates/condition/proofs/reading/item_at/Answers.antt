-- `item_at` meets its contract: a step that accepts the place has the bytes of its kind.
use native.Mathlib.Omega.{arith}
use mathlib.Core.Path.{◌≡◌, sym, ◌∙◌}
use Rattle.std.proofs.Common.{rules, Ok}
use Rattle.condition.specs.declared.kind.Kind.TheVariants.{Head, End}
use Rattle.condition.proofs.Laws.{item_opened, whole_head, whole_clause, clause_kind, other_kind}
use Rattle.condition.proofs.reading.item_at.Goals as goal

pub overflow_add-at : goal.overflow_add-at
overflow_add-at c = let o = item_opened _ _ _ c.requires.opening in record { fits = omega (arith, o.frame.long, o.frame.whole) }

pub u16_at-requires : goal.u16_at-requires
u16_at-requires c = let o = item_opened _ _ _ c.requires.opening in omega (arith, o.frame.long, o.frame.whole)

pub overflow_add-at-in-Ok-Head : goal.overflow_add-at-in-Ok-Head
overflow_add-at-in-Ok-Head c =
    let kind : c.u16_at.result ≡ 16 = search (rules) in
    record { fits = omega (arith, whole_head _ _ _ c.requires.opening (sym c.u16_at.ensures ∙ kind)) }

pub u16_at-requires-in-Ok-Head : goal.u16_at-requires-in-Ok-Head
u16_at-requires-in-Ok-Head c =
    let kind : c.u16_at.result ≡ 16 = search (rules) in omega (arith, whole_head _ _ _ c.requires.opening (sym c.u16_at.ensures ∙ kind))

pub clause_at-requires : goal.clause_at-requires
clause_at-requires c =
    let o = c.requires.opening in
    let head : c.try_from.result ≡ Ok Head → ⊥ = search (rules) in
    let end : c.try_from.result ≡ Ok End → ⊥ = search (rules) in
    let n = other_kind _ _ c.try_from.ensures head end in
    whole_clause _ _ _ o (clause_kind _ _ _ o (λ z. n.0 (c.u16_at.ensures ∙ z)) (λ z. n.1 (c.u16_at.ensures ∙ z)))
