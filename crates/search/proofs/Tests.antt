-- A clause at a cut: true, or who has to move.
use mathlib.Core.Path.{◌≡◌, refl, sym, ◌∙◌, subst}
use mathlib.Core.Bool.{Bool, true, false, cond}
use mathlib.Core.List.{List, Memᴰ}
use Prim.Native.Nat.{ℕ, zero, suc, ◌≤◌, ◌<◌}
use native.Mathlib.Omega.{arith}
use lib.Dec.{T, ltb}
use lib.IntN.{ℤ, pos}
use lib.ListN.{length, get_or}
use Rattle.model.proofs.Numbers.{never, T_of, not_T_of}
use Rattle.model.specs.declared.Channel.{Channel}
use Rattle.model.specs.declared.Mover.TheVariants.{Sender, Receiver, NotLinear}
use Rattle.model.specs.Run.{Run, processes, count, state, channel}
use Rattle.model.specs.Cut.{at, in_transit}
use Rattle.model.specs.Clause.{Comparison, compares, Test, passes, mover, Clause, holds}
use Rattle.model.specs.Linear.{Linear}
use Rattle.model.specs.Clause.Clause.{local, on}
use Rattle.model.proofs.Search.{Under, Moves, local_moves, sender_moves, receiver_moves}
use Rattle.condition.specs.Clauses.{test_of}
use Rattle.std.specs.Prelude.{Option, Some, None}
use Rattle.transit.proofs.Between.{Ends}
use Rattle.search.specs.Search.{EndNamed, Tested, Lowest, MustMove}
use Rattle.search.specs.Search.EndNamed.{sender, receiver}
use Rattle.search.specs.Search.Tested.{holding, local_false, channel_false}

module _ (r : Run) (cut : List ℕ) where
  pub local_true : (i v : ℕ) (o : Comparison) (x : ℤ) {y : ℤ} → y ≡ x → compares o (get_or (state r i (at cut i)).values v (pos 0)) y ≡ true
      → Tested r cut (local i v o x) None
  unfolding holds
  local_true i v o x z e = holding (T_of (subst (λ y. compares o (get_or (state r i (at cut i)).values v (pos 0)) y ≡ true) z e))

  pub local-false : (i v : ℕ) (o : Comparison) (x : ℤ) {y : ℤ} → i < processes r → y ≡ x → compares o (get_or (state r i (at cut i)).values v (pos 0)) y ≡ false
      → Tested r cut (local i v o x) (Some i)
  unfolding holds
  local-false i v o x h z e = local_false i v o x refl h (not_T_of (subst (λ y. compares o (get_or (state r i (at cut i)).values v (pos 0)) y ≡ false) z e))

-- a channel clause, by its test of what is in transit
module _ (r : Run) (cut : List ℕ) (c n x : ℕ) {b : Bool} (says : b ≡ passes (test_of n x) (in_transit r cut c)) where
  pub channel_true : b ≡ true → Tested r cut (on c (test_of n x)) None
  unfolding holds
  channel_true h = holding (T_of (sym says ∙ h))

  pub channel-false : {named : Option ℕ} → b ≡ false → EndNamed r c (test_of n x) (length (in_transit r cut c)) named → Tested r cut (on c (test_of n x)) named
  unfolding holds
  channel-false h e = channel_false c (test_of n x) _ refl (not_T_of (sym says ∙ h)) e

module _ {r : Run} {c : ℕ} {t : Test} {n : ℕ} {e : Channel} (ends : Ends r c e) where
  pub names_sender : mover t n ≡ Sender → EndNamed r c t n (Some e.from)
  names_sender m = rw ends.same (sender (rw ends.same at ends.from) m)

  pub names_receiver : mover t n ≡ Receiver → EndNamed r c t n (Some e.to)
  names_receiver m = rw ends.same (receiver (rw ends.same at ends.to) m)

pub end_counted : {r : Run} {c : ℕ} {t : Test} {a b : ℕ} {named : Option ℕ} → a ≡ b → EndNamed r c t a named → EndNamed r c t b named
end_counted {r} {c} {t} {named = named} e w = subst (λ n. EndNamed r c t n named) e w

-- tests 1 to 7 say who has to move
pub test_says : (n x count : ℕ) → 1 ≤ n → n ≤ 7 → mover (test_of n x) count ≡ NotLinear → ⊥
unfolding test_of
test_says zero x count h g e = absurd (omega arith)
test_says (suc zero) x count h g e = never (cc)
test_says (suc (suc zero)) x count h g e = never (cc)
test_says (suc (suc (suc zero))) x count h g e = go (ltb count x) e
  where
    go : (b : Bool) → cond b Sender Receiver ≡ NotLinear → ⊥
    go true e = never (cc)
    go false e = never (cc)
test_says (suc (suc (suc (suc zero)))) x count h g e = never (cc)
test_says (suc (suc (suc (suc (suc zero))))) x count h g e = never (cc)
test_says (suc (suc (suc (suc (suc (suc zero)))))) x count h g e = never (cc)
test_says (suc (suc (suc (suc (suc (suc (suc zero))))))) x count h g e = never (cc)
test_says (suc (suc (suc (suc (suc (suc (suc (suc n)))))))) x count h g e = absurd (omega arith)

-- so who is named has to move
pub tested_moves : (r : Run) (cond : List Clause) (cut : List ℕ) (k : Clause) → Linear cond → Lowest r cond cut → Memᴰ k cond → (b : Option ℕ) (p : ℕ) → b ≡ Some p
    → Tested r cut k b → (p < processes r) × MustMove r cond cut p
unfolding Under Moves
tested_moves r cond cut k linear low m b p e (holding t) = never (cc)
tested_moves r cond cut k linear low m b p e (local_false i v o x g h n) =
    let same : i ≡ p = cc in
    subst (λ p. (p < processes r) × MustMove r cond cut p) same
    (h, local_moves r cond linear cut low i v o x (subst (λ k. Memᴰ k cond) g m) (subst (λ k. ¬ T (holds r cut k)) g n))
tested_moves r cond cut k linear low m b p e (channel_false c t b' g n w) = by_end _ w e
  where
    in_cond : Memᴰ (on c t) cond
    in_cond = subst (λ k. Memᴰ k cond) g m

    false_there : ¬ T (holds r cut (on c t))
    false_there = subst (λ k. ¬ T (holds r cut k)) g n

    by_end : (b : Option ℕ) → EndNamed r c t (length (in_transit r cut c)) b → b ≡ Some p → (p < processes r) × MustMove r cond cut p
    by_end b (sender h w) e =
        let same : (channel r c).from ≡ p = cc in
        subst (λ p. (p < processes r) × MustMove r cond cut p) same (h, sender_moves r cond linear cut low c t in_cond false_there w)
    by_end b (receiver h w) e =
        let same : (channel r c).to ≡ p = cc in
        subst (λ p. (p < processes r) × MustMove r cond cut p) same (h, receiver_moves r cond linear cut low c t in_cond false_there w)
