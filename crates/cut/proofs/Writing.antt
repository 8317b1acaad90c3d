-- Rows written into lent places one by one, and the rows of how many messages are on each channel and of their lowest stamps.
use mathlib.Core.Path.{◌≡◌, refl, sym, ◌∙◌, subst}
use mathlib.Core.Logic.{⊎_elim}
use mathlib.Core.Bool.{Bool, true, false, ◌||◌}
use mathlib.Core.List.{List, []}
use Prim.Native.Nat.{ℕ, ◌+◌, ◌≤◌, ◌<◌}
use native.Mathlib.Nat.{eq-or-lt_of_le}
use native.Mathlib.Omega.{arith}
use borrow.Author.Tests.{ltb-true, ltb-false}
use lib.Dec.{ltb}
use lib.IntN.{ℤ, pos}
use lib.ListN.{length, get_or, set, length-set}
use lib.Seq.{get_or-set_same, get_or-set_other}
use Rattle.model.proofs.Numbers.{below, never}
use Rattle.model.specs.Cut.{at, in_transit}
use Rattle.model.specs.Run.{Run}
use Rattle.model.specs.LowestStamp.{LowestStamp}
use Rattle.model.proofs.LowestStamp.{lowest_one, lowest_exactly}
use Rattle.states.proofs.Tabulate.{tabulate-length, tabulate-at}
use Rattle.std.specs.Prelude.{Option}
use Rattle.transit.specs.declared.Load.{Load}
use Rattle.transit.specs.Load.{LoadOf}
use Rattle.transit.specs.Load.LoadOf.{empty, messages}
use Rattle.cut.specs.Entered.{with_lowest}
use Rattle.cut.specs.Listing.{Room, Wrote, WroteLowest, on_each}

-- the first i places hold f 0, f 1, .., and the others are as they were
pub record Filled (f : ℕ → ℕ) (i : ℕ) (lent lent' : List ℕ) : Type 0 where
  pub long : length lent' ≡ length lent
  pub front : (q : ℕ) → q < i → get_or lent' q 0 ≡ f q
  pub past : (q : ℕ) → i ≤ q → get_or lent' q 0 ≡ get_or lent q 0

module _ (f : ℕ → ℕ) where
  pub filled_none : (lent : List ℕ) → Filled f 0 lent lent
  filled_none lent = record { long = refl; front = λ q h. absurd (omega arith); past = λ q h. refl }

  pub filled_more : {i x : ℕ} {lent lent' : List ℕ} → Filled f i lent lent' → i < length lent → x ≡ f i → Filled f (i + 1) lent (set lent' i x)
  filled_more {i} {x} {lent} {lent'} v h e = record {
    long = length-set lent' i x ∙ v.long;
    front = λ q g. ⊎_elim
        (λ d. subst (λ q. get_or (set lent' i x) q 0 ≡ f q) (sym d) (get_or-set_same lent' i x 0 (omega (arith, v.long)) ∙ e))
        (λ d. get_or-set_other lent' i q x 0 (λ d'. absurd (omega arith)) ∙ v.front q d)
        (eq-or-lt_of_le (below g));
    past = λ q g. get_or-set_other lent' i q x 0 (λ d. absurd (omega arith)) ∙ v.past q (omega arith);
  }

  pub filled_wrote : (row : List ℕ) {lent lent' : List ℕ} → ((q : ℕ) → q < length row → f q ≡ at row q) → Filled f (length row) lent lent' → Wrote row lent lent'
  filled_wrote row w v = record { long = v.long; front = λ q h. v.front q h ∙ w q h; past = v.past }

-- ---- the messages on each channel

module _ (r : Run) (cut : List ℕ) where
  each_long : length (on_each r cut) ≡ length r.channels
  unfolding on_each
  each_long = tabulate-length (length r.channels) (λ c. length (in_transit r cut c))

  each_at : (c : ℕ) → c < length r.channels → at (on_each r cut) c ≡ length (in_transit r cut c)
  unfolding on_each
  each_at c h = tabulate-at (length r.channels) (λ c. length (in_transit r cut c)) c 0 h

  -- once every channel has its place
  pub filled_each : {n : ℕ} {lent lent' : List ℕ} → n ≡ length r.channels → Filled (λ c. length (in_transit r cut c)) n lent lent' → Wrote (on_each r cut) lent lent'
  filled_each {n} {lent} {lent'} e v = filled_wrote (λ c. length (in_transit r cut c)) (on_each r cut)
      (λ c h. sym (each_at c (omega (arith, each_long))))
      (subst (λ n. Filled (λ c. length (in_transit r cut c)) n lent lent') (e ∙ sym each_long) v)

-- ---- the lowest stamps

module _ (r : Run) (cut : List ℕ) where
  pub lowest_none : (stamps : List ℤ) → WroteLowest r cut 0 stamps stamps
  lowest_none stamps = record { long = refl; lowest = λ c x h. absurd (omega arith); empty = λ c h. absurd (omega arith); past = λ c h. refl }

  module _ {k : ℕ} {stamps stamps' : List ℤ} (v : WroteLowest r cut k stamps stamps') where
    kept : in_transit r cut k ≡ [] → WroteLowest r cut (k + 1) stamps stamps'
    kept e = record {
      long = v.long;
      lowest = λ c x h w. ⊎_elim (λ d. absurd ((lowest_exactly _).0 (x, subst (λ c. LowestStamp (in_transit r cut c) x) d w) e)) (λ d. v.lowest c x d w) (eq-or-lt_of_le (below h));
      empty = λ c h w. ⊎_elim (λ d. v.past c (omega arith)) (λ d. v.empty c d w) (eq-or-lt_of_le (below h));
      past = λ c h. v.past c (omega arith);
    }

    entered : {y : ℤ} → LowestStamp (in_transit r cut k) y → k < length stamps → WroteLowest r cut (k + 1) stamps (set stamps' k y)
    entered {y} w room =
        let other : (c : ℕ) → (c ≡ k → ⊥) → get_or (set stamps' k y) c (pos 0) ≡ get_or stamps' c (pos 0) = λ c n. get_or-set_other stamps' k c y (pos 0) n in
        record {
          long = length-set stamps' k y ∙ v.long;
          lowest = λ c x h u. ⊎_elim
              (λ d. subst (λ c. get_or (set stamps' k y) c (pos 0) ≡ x) (sym d)
              (get_or-set_same stamps' k y (pos 0) (omega (arith, v.long)) ∙ lowest_one w (subst (λ c. LowestStamp (in_transit r cut c) x) d u)))
              (λ d. other c (λ e. absurd (omega arith)) ∙ v.lowest c x d u)
              (eq-or-lt_of_le (below h));
          empty = λ c h u. ⊎_elim
              (λ d. absurd ((lowest_exactly _).0 (y, w) (subst (λ c. in_transit r cut c ≡ []) d u)))
              (λ d. other c (λ e. absurd (omega arith)) ∙ v.empty c d u)
              (eq-or-lt_of_le (below h));
          past = λ c h. other c (λ e. absurd (omega arith)) ∙ v.past c (omega arith);
        }

    pub lowest_more : {load : Option Load} → LoadOf (in_transit r cut k) load → k < length stamps → WroteLowest r cut (k + 1) stamps (with_lowest load k stamps')
    unfolding with_lowest
    lowest_more (empty e) room = kept e
    lowest_more (messages n w) room = entered w room

-- ---- the test for room

module _ (n : ℕ) (counts : List ℕ) (stamps : List ℤ) where
  pub room_lacks : (ltb (length counts) n || ltb (length stamps) n) ≡ true → ¬ Room n counts stamps
  room_lacks e w = go (ltb (length counts) n) refl e
    where
      go : (b : Bool) → ltb (length counts) n ≡ b → (b || ltb (length stamps) n) ≡ true → ⊥
      go true d e = omega (arith, ltb-true (length counts) n d, w.counts)
      go false d e = omega (arith, ltb-true (length stamps) n e, w.stamps)

  pub room_there : (ltb (length counts) n || ltb (length stamps) n) ≡ false → Room n counts stamps
  room_there e = go (ltb (length counts) n) refl e
    where
      go : (b : Bool) → ltb (length counts) n ≡ b → (b || ltb (length stamps) n) ≡ false → Room n counts stamps
      go true d e = never (cc)
      go false d e = record { counts = ltb-false (length counts) n d; stamps = ltb-false (length stamps) n e }
