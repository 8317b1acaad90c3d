-- Tests that compute: a cut, consistent, satisfying; all cuts of a run; the first and the last satisfying cut.
use mathlib.Core.Path.{◌≡◌, refl, sym, ap, ◌∙◌, subst}
use mathlib.Core.Logic.{⊎_elim, ◌↔◌}
use mathlib.Core.Bool.{Bool, true, ◌&&◌}
use mathlib.Core.List.Memᴰ
use mathlib.Core.List.{List, [], ◌∷◌, ◌++◌, map, Memᴰ}
use mathlib.Core.Option.{Option, some, none}
use Prim.Native.Nat.{ℕ, zero, suc, ◌+◌, ◌≤◌, ◌<◌}
use native.Mathlib.Nat.{eq-or-lt_of_le}
use native.Mathlib.Omega.{arith}
use lib.Dec.{T, eqb, leb, eqb→eq, leb→le, le→leb}
use lib.ListN.{length, get_or}
use Rattle.model.proofs.Numbers.{never}
use Rattle.model.specs.declared.Message.{Message}
use Rattle.model.specs.declared.Event.{Event}
use Rattle.model.specs.declared.Event.TheVariants.{Start, Internal, Send, Receive}
use Rattle.model.specs.Run.{Run, State, into, channel, count, processes, IsState, receiving, paired}
use Rattle.model.specs.Known.{Known}
use Rattle.model.specs.Cut.{at, IsCut, some_up_to}
use Rattle.model.specs.Sent.{ByMessage}
use Rattle.model.specs.Clause.{every_of, Clause, holds, Satisfies, First}
use Rattle.model.specs.Linear.{Linear}
use Rattle.model.specs.Last.{Last}
use Rattle.model.proofs.Lists.{eq→eqb, and_T, T_and, every_below, some_at, at_some, every-below, below_every, every_mem, mem_every, keep, keep_mem, mem_keep}
use Rattle.model.proofs.Pairing.{view, from_end, sent_there, received_there, process_there}
use Rattle.model.proofs.Order.{consistent_by_message}
use Rattle.model.proofs.Lattice.{Blend, lower, higher, at_lower, at_higher, lower_blend, higher_blend, satisfies_blend}

-- what state l of process j receives was sent by its channel's sender i up to its state a i
abbrev pub sent_by : Run → (ℕ → ℕ) → ℕ → ℕ → Option Message → Bool
sent_by r a j l none = true
sent_by r a j l (some m) = let i = (channel r m.channel).from in some_up_to (λ k. paired r i k j l) (a i)

-- each message received up to the cut was sent up to it
abbrev pub consistent? : Run → List ℕ → Bool
consistent? r cut = every_below (λ j. every_below (λ l. sent_by r (at cut) j (suc l) (receiving (into r j (suc l)))) (at cut j)) (processes r)

abbrev pub cut? : Run → List ℕ → Bool
cut? r cut = eqb (length cut) (processes r) && every_below (λ i. leb 1 (at cut i) && leb (at cut i) (count r i)) (processes r)

abbrev pub satisfies? : Run → List Clause → List ℕ → Bool
satisfies? r cond cut = cut? r cut && (consistent? r cut && every_of (holds r cut) cond)

pub cut_iff : (r : Run) (cut : List ℕ) → T (cut? r cut) ↔ IsCut r cut
cut_iff r cut = (to, from)
  where
    inside : ℕ → Bool
    inside i = leb 1 (at cut i) && leb (at cut i) (count r i)

    to : T (cut? r cut) → IsCut r cut
    to t = let (a, b) = and_T (eqb (length cut) (processes r)) (every_below inside (processes r)) t in record {
      size = eqb→eq (length cut) (processes r) a;
      states = λ i p. let (x, y) = and_T (leb 1 (at cut i)) (leb (at cut i) (count r i)) (every-below inside (processes r) b i p) in
          record { counted = leb→le 1 (at cut i) x; there = leb→le (at cut i) (count r i) y };
    }

    from : IsCut r cut → T (cut? r cut)
    from c = T_and (eqb (length cut) (processes r)) (every_below inside (processes r)) (eq→eqb (length cut) (processes r) c.size)
        (below_every inside (processes r) (λ i p. let s = c.states i p in
        T_and (leb 1 (at cut i)) (leb (at cut i) (count r i)) (le→leb 1 (at cut i) s.counted) (le→leb (at cut i) (count r i) s.there)))

module _ (r : Run) (known : Known r) where
  pub message_iff : (cut : List ℕ) → T (consistent? r cut) ↔ ByMessage r cut
  unfolding ByMessage
  message_iff cut = (to, from)
    where
      row : ℕ → ℕ → Bool
      row j l = sent_by r (at cut) j (suc l) (receiving (into r j (suc l)))

      to : T (consistent? r cut) → ByMessage r cut
      to t j zero m h e = let s : IsState r j 0 = received_there e in absurd (omega arith)
      to t j (suc l) m h e =
          let s : IsState r j (suc l) = received_there e in
          let i = (channel r m.channel).from in
          let here = every-below (row j) (at cut j) (every-below (λ j. every_below (row j) (at cut j)) (processes r) t j (process_there s)) l h in
          let (k, p, q, u) = some_at (λ k. paired r i k j (suc l)) (at cut i) (subst (λ v. T (sent_by r (at cut) j (suc l) (receiving v))) e here) in
          (i, k, record { same = u }, q)

      each : ByMessage r cut → (j l : ℕ) → l ≤ at cut j → (e : Event) → into r j l ≡ e → T (sent_by r (at cut) j l (receiving e))
      each ok j l h Start e = tt
      each ok j l h Internal e = tt
      each ok j l h (Send m) e = tt
      each ok j l h (Receive m) e =
          let (i, k, p, g) = ok j l m h e in
          let same : (view p).received ≡ m = cc ((view p).receive, e) in
          let end : (channel r m.channel).from ≡ i = ap (λ n. (channel r n.channel).from) (sym same) ∙ from_end r known (view p) in
          subst (λ i. T (some_up_to (λ k. paired r i k j l) (at cut i))) (sym end)
          (at_some (λ k. paired r i k j l) (at cut i) k (sent_there (view p).send).counted g p.same)

      from : ByMessage r cut → T (consistent? r cut)
      from ok = below_every (λ j. every_below (row j) (at cut j)) (processes r)
          (λ j p. below_every (row j) (at cut j) (λ l h. each ok j (suc l) h (into r j (suc l)) refl))

  pub satisfies_iff : (cond : List Clause) (cut : List ℕ) → T (satisfies? r cond cut) ↔ Satisfies r cond cut
  satisfies_iff cond cut = (to, from)
    where
      to : T (satisfies? r cond cut) → Satisfies r cond cut
      to t =
          let (a, u) = and_T (cut? r cut) (consistent? r cut && every_of (holds r cut) cond) t in
          let (b, v) = and_T (consistent? r cut) (every_of (holds r cut) cond) u in
          let c = (cut_iff r cut).0 a in record {
            is_cut = c;
            consistent = (consistent_by_message r known cut c).1 ((message_iff cut).0 b);
            clauses = λ k m. every_mem (holds r cut) v m;
          }

      from : Satisfies r cond cut → T (satisfies? r cond cut)
      from x = T_and (cut? r cut) (consistent? r cut && every_of (holds r cut) cond) ((cut_iff r cut).1 x.is_cut)
          (T_and (consistent? r cut) (every_of (holds r cut) cond) ((message_iff cut).1 ((consistent_by_message r known cut x.is_cut).0 x.consistent))
          (mem_every (holds r cut) cond x.clauses))

-- ---- all cuts of a run

-- n numbers from a
abbrev pub span : ℕ → ℕ → List ℕ
span a zero = []
span a (suc n) = a ∷ span (suc a) n

abbrev pub each : List ℕ → List (List ℕ) → List (List ℕ)
each [] cs = []
each (k ∷ ks) cs = map (λ c. k ∷ c) cs ++ each ks cs

abbrev pub cuts_of : List (List State) → List (List ℕ)
cuts_of [] = [] ∷ []
cuts_of (h ∷ hs) = each (span 1 (length h)) (cuts_of hs)

span_mem : (a n k : ℕ) → a ≤ k → k < a + n → Memᴰ k (span a n)
span_mem a zero k p q = absurd (omega arith)
span_mem a (suc n) k p q = ⊎_elim (λ e. Memᴰ.head (sym e)) (λ g. Memᴰ.tail (span_mem (suc a) n k g (omega arith))) (eq-or-lt_of_le p)

each_mem : (ks : List ℕ) (cs : List (List ℕ)) {k : ℕ} {c : List ℕ} → Memᴰ k ks → Memᴰ c cs → Memᴰ (k ∷ c) (each ks cs)
each_mem [] cs x m = elim x [ ]
each_mem (x ∷ ks) cs {k} {c} (Memᴰ.head e) m = Memᴰ.cast (ap (λ y. y ∷ c) e) (Memᴰ.append_left (each ks cs) (Memᴰ.map (λ c. x ∷ c) m))
each_mem (x ∷ ks) cs (Memᴰ.tail q) m = Memᴰ.append_right (map (λ c. x ∷ c) cs) (each_mem ks cs q m)

cuts_of_mem : (hs : List (List State)) (d : List ℕ) → length d ≡ length hs → ((i : ℕ) → i < length hs → (1 ≤ at d i) × (at d i ≤ length (get_or hs i []))) → Memᴰ d (cuts_of hs)
cuts_of_mem [] [] e w = Memᴰ.head refl
cuts_of_mem [] (x ∷ d) e w = absurd (omega arith)
cuts_of_mem (h ∷ hs) [] e w = absurd (omega arith)
cuts_of_mem (h ∷ hs) (x ∷ d) e w =
    let (a, b) = w 0 (omega arith) in
    each_mem (span 1 (length h)) (cuts_of hs) (span_mem 1 (length h) x a (omega arith)) (cuts_of_mem hs d (omega arith) (λ i p. w (suc i) (omega arith)))

-- ---- the first and the last satisfying cut: the lowest, and the highest, number in each place of all cuts that satisfy

abbrev pub fold : (List ℕ → List ℕ → List ℕ) → List ℕ → List (List ℕ) → List ℕ
fold f c [] = c
fold f c (d ∷ ds) = fold f (f c d) ds

abbrev pub fold_of : (List ℕ → List ℕ → List ℕ) → List (List ℕ) → Option (List ℕ)
fold_of f [] = none
fold_of f (c ∷ cs) = some (fold f c cs)

abbrev pub satisfying : Run → List Clause → List (List ℕ)
satisfying r cond = keep (satisfies? r cond) (cuts_of r.histories)

abbrev pub first? : Run → List Clause → Option (List ℕ)
first? r cond = fold_of lower (satisfying r cond)

abbrev pub last? : Run → List Clause → Option (List ℕ)
last? r cond = fold_of higher (satisfying r cond)

-- a way to choose between cuts: it blends, and the choice is related to both
pub record Choice (f : List ℕ → List ℕ → List ℕ) (R : ℕ → ℕ → Type 0) : Type 1 where
  pub blend : (c d : List ℕ) → Blend c d (f c d)
  pub left : (c d : List ℕ) (i : ℕ) → R (at (f c d) i) (at c i)
  pub right : (c d : List ℕ) (i : ℕ) → R (at (f c d) i) (at d i)
  pub self : (a : ℕ) → R a a
  pub chain : (a b c : ℕ) → R a b → R b c → R a c

pub lowest : Choice lower (λ a b. a ≤ b)
lowest = record {
  blend = lower_blend;
  left = λ c d i. omega (arith, at_lower c d i);
  right = λ c d i. omega (arith, at_lower c d i);
  self = λ a. omega arith;
  chain = λ a b c x y. omega arith;
}

pub highest : Choice higher (λ a b. b ≤ a)
highest = record {
  blend = higher_blend;
  left = λ c d i. omega (arith, at_higher c d i);
  right = λ c d i. omega (arith, at_higher c d i);
  self = λ a. omega arith;
  chain = λ a b c x y. omega arith;
}

module _ {f : List ℕ → List ℕ → List ℕ} {R : ℕ → ℕ → Type 0} (w : Choice f R) where
  fold_start : (c : List ℕ) (cs : List (List ℕ)) (i : ℕ) → R (at (fold f c cs) i) (at c i)
  fold_start c [] i = w.self (at c i)
  fold_start c (d ∷ ds) i = w.chain _ (at (f c d) i) _ (fold_start (f c d) ds i) (w.left c d i)

  fold_rest : (c : List ℕ) (cs : List (List ℕ)) {d : List ℕ} → Memᴰ d cs → (i : ℕ) → R (at (fold f c cs) i) (at d i)
  fold_rest c [] x i = elim x [ ]
  fold_rest c (x ∷ cs) (Memᴰ.head e) i = rw e (w.chain _ (at (f c x) i) _ (fold_start (f c x) cs i) (w.right c x i))
  fold_rest c (x ∷ cs) (Memᴰ.tail q) i = fold_rest (f c x) cs q i

  fold_all : (c : List ℕ) (cs : List (List ℕ)) {d : List ℕ} → Memᴰ d (c ∷ cs) → (i : ℕ) → R (at (fold f c cs) i) (at d i)
  fold_all c cs q i = ⊎_elim (λ e. rw e (fold_start c cs i)) (λ m. fold_rest c cs m i) (Memᴰ.cases_cons q)

  module _ (r : Run) (known : Known r) (cond : List Clause) (linear : Linear cond) where
    fold_satisfies : (c : List ℕ) (cs : List (List ℕ)) → Satisfies r cond c → ((d : List ℕ) → Memᴰ d cs → Satisfies r cond d) → Satisfies r cond (fold f c cs)
    fold_satisfies c [] p q = p
    fold_satisfies c (x ∷ cs) p q =
        fold_satisfies (f c x) cs (satisfies_blend r known (w.blend c x) linear p (q x (Memᴰ.head refl))) (λ d m. q d (Memᴰ.tail m))

    -- what is chosen of all satisfying cuts satisfies, and is related to each
    chosen : (cs : List (List ℕ)) → ((d : List ℕ) → Satisfies r cond d ↔ Memᴰ d cs) → (c : List ℕ) → fold_of f cs ≡ some c
        → Satisfies r cond c × ((d : List ℕ) → Satisfies r cond d → (i : ℕ) → R (at c i) (at d i))
    chosen [] k c e = never (cc)
    chosen (x ∷ cs) k c e =
        let same : fold f x cs ≡ c = cc in
        rw (← same) (
          fold_satisfies x cs ((k x).1 (Memᴰ.head refl)) (λ d q. (k d).1 (Memᴰ.tail q)),
          λ d y i. fold_all x cs ((k d).0 y) i,
        )

    not_chosen : (cs : List (List ℕ)) → ((d : List ℕ) → Satisfies r cond d ↔ Memᴰ d cs) → fold_of f cs ≡ none → (d : List ℕ) → ¬ Satisfies r cond d
    not_chosen [] k e d x = Memᴰ.not-nil ((k d).0 x)
    not_chosen (c ∷ cs) k e d x = never (cc)

module _ (r : Run) (known : Known r) (cond : List Clause) (linear : Linear cond) where
  -- the cuts that satisfy are those that the test finds among all
  pub satisfying_iff : (d : List ℕ) → Satisfies r cond d ↔ Memᴰ d (satisfying r cond)
  satisfying_iff d = (
    λ x. mem_keep (satisfies? r cond)
        (cuts_of_mem r.histories d x.is_cut.size (λ i p. let s = x.is_cut.states i p in (s.counted, s.there)))
        ((satisfies_iff r known cond d).1 x),
    λ q. (satisfies_iff r known cond d).0 (keep_mem (satisfies? r cond) d (cuts_of r.histories) q),
  )

  pub first_found : (c : List ℕ) → first? r cond ≡ some c → First r cond c
  first_found c e = let (a, b) = chosen lowest r known cond linear (satisfying r cond) satisfying_iff c e in record { satisfies = a; least = b }

  pub none_found : first? r cond ≡ none → (d : List ℕ) → ¬ Satisfies r cond d
  none_found e = not_chosen lowest r known cond linear (satisfying r cond) satisfying_iff e

  pub last_found : (c : List ℕ) → last? r cond ≡ some c → Last r cond c
  last_found c e = let (a, b) = chosen highest r known cond linear (satisfying r cond) satisfying_iff c e in record { satisfies = a; most = b }

  -- where a cut satisfies there is a first one, and a last one
  pub has_first : (d : List ℕ) → Satisfies r cond d → (c : List ℕ) × First r cond c
  has_first d x = go (first? r cond) refl
    where
      go : (o : Option (List ℕ)) → first? r cond ≡ o → (c : List ℕ) × First r cond c
      go none e = absurd (none_found e d x)
      go (some c) e = (c, first_found c e)
