-- The lower and the higher of two satisfying cuts satisfy; the first cut is one, and so is the last; more clauses give no earlier cut.
use mathlib.Core.Path.{◌≡◌, refl, sym, ap, ◌∙◌, subst}
use mathlib.Core.Logic.{⊎_elim}
use mathlib.Core.List.{List, [], ◌∷◌, Memᴰ}
use Prim.Native.Nat.{ℕ, zero, suc, ◌≤◌, min, max}
use native.Mathlib.Nat.{le_antisymm, zero-min, min-zero, zero-max, max-zero}
use native.Mathlib.Omega.{arith}
use lib.IntN.{pos}
use lib.Dec.{T}
use lib.ListN.{length, get_or}
use lib.Seq.{ext_get_or}
use Rattle.model.specs.Run.{Run, state, channel, IsState, Paired}
use Rattle.model.specs.Known.{Known}
use Rattle.model.specs.Cut.{at, IsCut, between, in_transit}
use Rattle.model.specs.Sent.{ByMessage}
use Rattle.model.specs.Clause.{compares, Test, passes, Clause, holds, Satisfies, First}
use Rattle.model.specs.Linear.{Linear}
use Rattle.model.specs.Last.{Last}
use Rattle.model.specs.Clause.Clause.{local, on}
use Rattle.model.proofs.Lists.{le_or_lt, every_mem}
use Rattle.model.proofs.Pairing.{view, one_send}
use Rattle.model.proofs.Order.{consistent_by_message}
use Rattle.model.proofs.Transit.{between_more, rises, falls, LinearTest, passes_parts, rises_more, falls_fewer}

-- a fact about two numbers that stays true where the first grows and the second falls
pub record Up (P : ℕ → ℕ → Type 0) : Type 0 where
  pub move : {a a' b b' : ℕ} → a ≤ a' → b' ≤ b → P a b → P a' b'

-- cut f takes each number from d or from e, and keeps every such fact, of two processes, that d and e share
pub record Blend (d e f : List ℕ) : Type 1 where
  pub size : length d ≡ length e → length f ≡ length d
  pub one : (P : ℕ → Type 0) (i : ℕ) → P (at d i) → P (at e i) → P (at f i)
  pub two : (P : ℕ → ℕ → Type 0) → Up P → (i j : ℕ) → P (at d i) (at d j) → P (at e i) (at e j) → P (at f i) (at f j)

-- the lower number at each process, and the higher
abbrev pub lower : List ℕ → List ℕ → List ℕ
lower [] e = []
lower (x ∷ d) [] = []
lower (x ∷ d) (y ∷ e) = min x y ∷ lower d e

abbrev pub higher : List ℕ → List ℕ → List ℕ
higher [] e = e
higher (x ∷ d) [] = x ∷ d
higher (x ∷ d) (y ∷ e) = max x y ∷ higher d e

pub at_lower : (d e : List ℕ) (i : ℕ) → at (lower d e) i ≡ min (at d i) (at e i)
at_lower [] e i = sym (zero-min (at e i))
at_lower (x ∷ d) [] i = sym (min-zero (at (x ∷ d) i))
at_lower (x ∷ d) (y ∷ e) zero = refl
at_lower (x ∷ d) (y ∷ e) (suc i) = at_lower d e i

pub at_higher : (d e : List ℕ) (i : ℕ) → at (higher d e) i ≡ max (at d i) (at e i)
at_higher [] e i = sym (zero-max (at e i))
at_higher (x ∷ d) [] i = sym (max-zero (at (x ∷ d) i))
at_higher (x ∷ d) (y ∷ e) zero = refl
at_higher (x ∷ d) (y ∷ e) (suc i) = at_higher d e i

length_lower : (d e : List ℕ) → length d ≡ length e → length (lower d e) ≡ length d
length_lower [] e h = refl
length_lower (x ∷ d) [] h = absurd (omega arith)
length_lower (x ∷ d) (y ∷ e) h = ap suc (length_lower d e (omega arith))

length_higher : (d e : List ℕ) → length d ≡ length e → length (higher d e) ≡ length d
length_higher [] e h = sym h
length_higher (x ∷ d) [] h = refl
length_higher (x ∷ d) (y ∷ e) h = ap suc (length_higher d e (omega arith))

pub lower_blend : (d e : List ℕ) → Blend d e (lower d e)
lower_blend d e = record {
  size = length_lower d e;
  one = λ P i p q. ⊎_elim (λ h. let z : at (lower d e) i ≡ at d i = omega (arith, at_lower d e i) in rw z p)
      (λ h. let z : at (lower d e) i ≡ at e i = omega (arith, at_lower d e i) in rw z q) (le_or_lt (at d i) (at e i));
  two = λ P up i j p q. ⊎_elim (λ h. up.move (omega (arith, at_lower d e i)) (omega (arith, at_lower d e j)) p)
      (λ h. up.move (omega (arith, at_lower d e i)) (omega (arith, at_lower d e j)) q) (le_or_lt (at d i) (at e i));
}

pub higher_blend : (d e : List ℕ) → Blend d e (higher d e)
higher_blend d e = record {
  size = length_higher d e;
  one = λ P i p q. ⊎_elim (λ h. let z : at (higher d e) i ≡ at e i = omega (arith, at_higher d e i) in rw z q)
      (λ h. let z : at (higher d e) i ≡ at d i = omega (arith, at_higher d e i) in rw z p) (le_or_lt (at d i) (at e i));
  two = λ P up i j p q. ⊎_elim (λ h. up.move (omega (arith, at_higher d e i)) (omega (arith, at_higher d e j)) q)
      (λ h. up.move (omega (arith, at_higher d e i)) (omega (arith, at_higher d e j)) p) (le_or_lt (at d j) (at e j));
}

-- a linear test that is true at two cuts is true at their blend
passes_blend : (r : Run) (c : ℕ) (t : Test) → LinearTest t → {d e f : List ℕ} → Blend d e f → (i j : ℕ)
    → T (passes t (between r c (at d i) (at d j))) → T (passes t (between r c (at e i) (at e j))) → T (passes t (between r c (at f i) (at f j)))
passes_blend r c t linear {d} {e} {f} w i j p q =
    let x = (passes_parts t linear (between r c (at d i) (at d j))).0 p in
    let y = (passes_parts t linear (between r c (at e i) (at e j))).0 q in
    (passes_parts t linear (between r c (at f i) (at f j))).1 (
      w.two (λ a b. T (rises t (between r c a b))) (record { move = λ h g u. rises_more t (between_more r c h g) u }) i j x.0 y.0,
      w.two (λ b a. T (falls t (between r c a b))) (record { move = λ h g u. falls_fewer t (between_more r c g h) u }) j i x.1 y.1,
    )

module _ (r : Run) (known : Known r) {d e f : List ℕ} (w : Blend d e f) where
  cut_blend : IsCut r d → IsCut r e → IsCut r f
  cut_blend c c' = record {
    size = w.size (c.size ∙ sym c'.size) ∙ c.size;
    states = λ i p. w.one (IsState r i) i (c.states i p) (c'.states i p);
  }

  -- the one send of a receive up to either cut is up to that cut
  sent-by : (g : List ℕ) → ByMessage r g → {i k j l : ℕ} → Paired r i k j l → l ≤ at g j → k ≤ at g i
  unfolding ByMessage
  sent-by g ok {i} {k} {j} {l} p h =
      let o = ok j l (view p).received h (view p).receive in
      let s = one_send r known p o.2 in
      subst (λ x. k ≤ at g x) (sym s.0) (omega (arith, s.1, o.3))

  message_blend : ByMessage r d → ByMessage r e → ByMessage r f
  unfolding ByMessage
  message_blend p q j l m h g =
      let (i, k, o) = known.origin j l m g in
      (i, k, o, w.two (λ a b. l ≤ b → k ≤ a) (record { move = λ x y z u. omega (arith, z (omega arith)) }) i j (sent-by d p o) (sent-by e q o) h)

  holds_blend : {cond : List Clause} → Linear cond → (k : Clause) → Memᴰ k cond → T (holds r d k) → T (holds r e k) → T (holds r f k)
  unfolding holds in_transit
  holds_blend linear (local i v o x) m p q = w.one (λ n. T (compares o (get_or (state r i n).values v (pos 0)) x)) i p q
  holds_blend linear (on c t) m p q = passes_blend r c t (every_mem _ linear m) w (channel r c).from (channel r c).to p q

  pub satisfies_blend : {cond : List Clause} → Linear cond → Satisfies r cond d → Satisfies r cond e → Satisfies r cond f
  satisfies_blend linear x y =
      let c = cut_blend x.is_cut y.is_cut in record {
        is_cut = c;
        consistent = (consistent_by_message r known f c).1
            (message_blend ((consistent_by_message r known d x.is_cut).0 x.consistent) ((consistent_by_message r known e y.is_cut).0 y.consistent));
        clauses = λ k m. holds_blend linear k m (x.clauses k m) (y.clauses k m);
      }

module _ {r : Run} {cond : List Clause} {c d : List ℕ} where
  -- satisfying cuts are closed under the lower and the higher of two
  pub lower_satisfies : Known r → Linear cond → Satisfies r cond c → Satisfies r cond d → Satisfies r cond (lower c d)
  lower_satisfies known linear = satisfies_blend r known (lower_blend c d) linear

  pub higher_satisfies : Known r → Linear cond → Satisfies r cond c → Satisfies r cond d → Satisfies r cond (higher c d)
  higher_satisfies known linear = satisfies_blend r known (higher_blend c d) linear

  -- there is at most one first cut, and at most one last
  pub first_unique : First r cond c → First r cond d → c ≡ d
  first_unique x y =
      ext_get_or 0 c d (x.satisfies.is_cut.size ∙ sym y.satisfies.is_cut.size)
      (λ i h. le_antisymm (x.least d y.satisfies i) (y.least c x.satisfies i))

  pub last_unique : Last r cond c → Last r cond d → c ≡ d
  last_unique x y =
      ext_get_or 0 c d (x.satisfies.is_cut.size ∙ sym y.satisfies.is_cut.size)
      (λ i h. le_antisymm (y.most c x.satisfies i) (x.most d y.satisfies i))

-- what satisfies more clauses satisfies fewer
pub fewer_clauses : {r : Run} {cond more : List Clause} {d : List ℕ} → ((k : Clause) → Memᴰ k cond → Memᴰ k more) → Satisfies r more d → Satisfies r cond d
fewer_clauses w x = record { is_cut = x.is_cut; consistent = x.consistent; clauses = λ k m. x.clauses k (w k m) }

-- so more clauses never give an earlier cut
pub no_earlier : {r : Run} {cond more : List Clause} {c d : List ℕ} → ((k : Clause) → Memᴰ k cond → Memᴰ k more)
    → First r cond c → First r more d → (i : ℕ) → at c i ≤ at d i
no_earlier {d = d} w x y i = x.least d (fewer_clauses w y.satisfies) i
