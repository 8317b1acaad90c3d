-- The search moves up: a cut at or below every satisfying cut, a process that has to move, and the end.
use mathlib.Core.Path.{◌≡◌, sym, subst}
use mathlib.Core.Logic.{⊎_elim, ◌≢◌}
use mathlib.Core.List.Memᴰ
use mathlib.Core.List.{List, [], Memᴰ}
use Prim.Native.Nat.{ℕ, suc, ◌≤◌, ◌<◌}
use native.Mathlib.Nat.{eq-or-lt_of_le}
use native.Mathlib.Decide.{ℕ_discrete}
use native.Mathlib.Omega.{arith}
use lib.Dec.{T}
use lib.IntN.{ℤ, pos}
use lib.ListN.{length, get_or, set, replicate, length-replicate, get_or-replicate, get_or-eq_default}
use lib.Seq.{get_or-set_same, get_or-set_other}
use Rattle.model.proofs.Circle.{last}
use Rattle.model.proofs.Clock.{before_first}
use Rattle.model.proofs.Lists.{le_or_lt, every_mem}
use Rattle.model.proofs.Order.{before_up, consistent_by_clock, target}
use Rattle.model.proofs.Pairing.{process_there}
use Rattle.model.proofs.Transit.{sender_stays, receiver_stays}
use Rattle.model.specs.Run.{Run, channel, count, processes, state}
use Rattle.model.specs.Known.{Known}
use Rattle.model.specs.Cut.{Before, Consistent, IsCut, at, between, in_transit}
use Rattle.model.specs.Clocks.{ByClock, Clocks}
use Rattle.model.specs.Clause.{Comparison, compares, Test, passes, mover, Clause, holds, Satisfies, First}
use Rattle.model.specs.Linear.{Linear}
use Rattle.model.specs.Clause.Clause.{local, on}
use Rattle.model.specs.declared.Mover.TheVariants.{Sender, Receiver}

module _ (r : Run) (cond : List Clause) where
  -- at or below every satisfying cut in each place
  unfoldable pub Under : List ℕ → Type 0
  Under c = (d : List ℕ) → Satisfies r cond d → (i : ℕ) → at c i ≤ at d i

  -- every satisfying cut is further on at process p
  unfoldable pub Moves : List ℕ → ℕ → Type 0
  Moves c p = (d : List ℕ) → Satisfies r cond d → at c p < at d p

  -- so the search may move p on by one, and where p is at its last state nothing satisfies
  pub move-on : (c : List ℕ) (p : ℕ) → p < length c → Under c → Moves c p → Under (set c p (suc (at c p)))
  unfolding Under Moves
  move-on c p h u m d x i = elim (ℕ_discrete i p) [
    | yes e ↦ rw (e, get_or-set_same c p (suc (at c p)) 0 h) (m d x)
    | no n ↦ rw (get_or-set_other c p i (suc (at c p)) 0 n) (u d x i)
  ]

  pub run_out : (c : List ℕ) (p : ℕ) → p < processes r → count r p ≤ at c p → Moves c p → (d : List ℕ) → ¬ Satisfies r cond d
  unfolding Moves
  run_out c p h g m d x = absurd (omega (arith, m d x, (x.is_cut.states p h).there))

  -- where it satisfies, it is the first
  pub arrive : (c : List ℕ) → Under c → Satisfies r cond c → First r cond c
  unfolding Under
  arrive c u x = record { satisfies = x; least = u }

  module _ (linear : Linear cond) (c : List ℕ) (u : Under c) where
    -- a local clause that is false: its process
    pub local_moves : (i v : ℕ) (o : Comparison) (x : ℤ) → Memᴰ (local i v o x) cond → ¬ T (holds r c (local i v o x)) → Moves c i
    unfolding Under Moves holds
    local_moves i v o x m n d s = ⊎_elim
        (λ e. absurd (n (subst (λ k. T (compares o (get_or (state r i k).values v (pos 0)) x)) (sym e) (s.clauses (local i v o x) m))))
        (λ g. g)
        (eq-or-lt_of_le (u d s i))

    -- a channel test that is false: the one who has to move
    pub sender_moves : (k : ℕ) (t : Test) → Memᴰ (on k t) cond → ¬ T (holds r c (on k t)) → mover t (length (in_transit r c k)) ≡ Sender → Moves c (channel r k).from
    unfolding Under Moves holds in_transit
    sender_moves k t m n e d s =
        let i = (channel r k).from in
        let j = (channel r k).to in ⊎_elim
        (λ z. absurd (sender_stays r k t (every_mem _ linear m) (at c i) (at c j) n e (at d j) (u d s j)
        (subst (λ a. T (passes t (between r k a (at d j)))) (sym z) (s.clauses (on k t) m))))
        (λ g. g)
        (eq-or-lt_of_le (u d s i))

    pub receiver_moves : (k : ℕ) (t : Test) → Memᴰ (on k t) cond → ¬ T (holds r c (on k t)) → mover t (length (in_transit r c k)) ≡ Receiver → Moves c (channel r k).to
    unfolding Under Moves holds in_transit
    receiver_moves k t m n e d s =
        let i = (channel r k).from in
        let j = (channel r k).to in ⊎_elim
        (λ z. absurd (receiver_stays r k t (every_mem _ linear m) (at c i) (at c j) n e (at d i) (u d s i)
        (subst (λ b. T (passes t (between r k (at d i) b))) (sym z) (s.clauses (on k t) m))))
        (λ g. g)
        (eq-or-lt_of_le (u d s j))

    -- a clock that is not less: the process whose place it is
    pub clock_moves : (clock : ℕ → ℕ → ℕ → ℕ) → Clocks r clock → IsCut r c → (i j : ℕ) → i < processes r → j < processes r → i ≢ j
        → at c i ≤ clock j (at c j) i → Moves c i
    unfolding Under Moves Clocks ByClock
    clock_moves clock rule is i j p q n h d s =
        let here = rule j (at c j) i (is.states j q) p in
        let there = rule j (at d j) i (s.is_cut.states j q) p in
        let less = (consistent_by_clock r clock d rule s.is_cut).0 s.consistent i j p q n in
        let low = is.states i p in
        let z = is.states j q in
        ⊎_elim (λ e. absurd (omega arith)) (λ b. omega (arith, there.bound n (clock j (at c j) i) (before_up b z.counted (u d s j) (s.is_cut.states j q).there))) (here.reached n)

-- ---- where the search starts: state 1 of every process

abbrev pub ones : Run → List ℕ
ones r = replicate (processes r) 1

module _ (r : Run) (known : Known r) where
  at_ones : (i : ℕ) → i < processes r → at (ones r) i ≡ 1
  at_ones i p = get_or-replicate (processes r) i 1 0 p

  pub ones_cut : IsCut r (ones r)
  ones_cut = record {
    size = length-replicate (processes r) 1;
    states = λ i p. record { counted = omega (arith, at_ones i p); there = omega (arith, at_ones i p, known.sides.peopled i p) };
  }

  pub ones_under : (cond : List Clause) → Under r cond (ones r)
  unfolding Under
  ones_under cond d x i = ⊎_elim
      (λ p. omega (arith, at_ones i p, (x.is_cut.states i p).counted))
      (λ p. omega (arith, get_or-eq_default (ones r) 0 {n = i} (omega (arith, ones_cut.size))))
      (le_or_lt (suc i) (processes r))

  -- with no clause the first cut is state 1 everywhere
  pub first_ones : First r [] (ones r)
  unfolding Consistent
  first_ones = arrive r [] (ones r) (ones_under []) (record {
    is_cut = ones_cut;
    consistent = λ i j n b. let p = process_there (target b) in before_first r known (last r (subst (Before r i (at (ones r) i) j) (at_ones j p) b)).2;
    clauses = λ k m. absurd (Memᴰ.not-nil m);
  })

-- what the search has tested at the end
pub all_tested : (r : Run) (clock : ℕ → ℕ → ℕ → ℕ) (cond : List Clause) (c : List ℕ) → Clocks r clock → IsCut r c → ByClock r clock c
    → ((k : Clause) → Memᴰ k cond → T (holds r c k)) → Satisfies r cond c
all_tested r clock cond c rule is ok w = record { is_cut = is; consistent = (consistent_by_clock r clock c rule is).1 ok; clauses = w }
