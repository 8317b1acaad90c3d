-- `differs` meets its contract: the clock stands whole in the record, and each of its numbers is looked at.
use mathlib.Core.Path.{◌≡◌, ◌∙◌}
use Prim.Native.Nat.{ℕ, ◌+◌, ◌*◌}
use borrow.Author.Tests.{tests}
use Rattle.std.proofs.Common.{rules}
use Rattle.std.proofs.lemmas.Iterator.{serves_from_Range}
use Rattle.record.specs.Bytes.{u16_at}
use Rattle.record.specs.Inner.{clock_place}
use Rattle.run.specs.Index.{clock_in}
use Rattle.run.proofs.Listed.{ok, short, listed_slot, listed_at, listed_whole}
use Rattle.judged.proofs.Ranges.{any_from_Range}
use Rattle.judged.proofs.Orders.{compared}
use Rattle.order.proofs.differs.Goals as goal

pub place_of-requires : goal.place_of-requires
place_of-requires c = let r = c.requires in (r.0.listed.long, listed_slot _ _ r.0.listed r.1)

pub any-requires-clause-callable : goal.any-requires-clause-callable
any-requires-clause-callable c =
    let (w, t) = c.requires in
    let l = w.listed in
    let few = (ok _ l.read).head.few in
    let whole = listed_whole _ _ l _ _ t in
    let small = short _ l.read in
    let slot = listed_slot _ _ l t in
    serves_from_Range (λ x q k. search (rules, tests)) (λ x low high. search rules)

pub returns : goal.returns
returns c =
    let a = c.args in
    let (w, t) = c.requires in
    let same = λ (x : ℕ). u16_at a.run.now (c.place_of.result + clock_place + 2 * x) ≡ clock_in a.index.now a.p a.k x in
    compared w _ _ _ (c.place_of.ensures ∙ listed_at _ _ w.listed _ _ t) t _
    (any_from_Range _ _ _ _ (λ x. ¬ same x) same c.any.ensures.ran (λ x q k. search (rules, tests)) (λ x q k. (search (rules, tests), search (rules, tests))))
