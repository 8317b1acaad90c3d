-- A cut is consistent exactly if each message received up to it was sent up to it, and exactly if its clocks say so.
use mathlib.Core.Path.{◌≡◌, sym, ◌∙◌}
use mathlib.Core.Logic.{◌⊎◌, inl, inr, ⊎_elim, ◌≢◌, ◌↔◌}
use mathlib.Core.List.{List}
use Prim.Native.Nat.{ℕ, zero, suc, ◌≤◌, ◌<◌}
use native.Mathlib.Nat.{eq-or-lt_of_le, le_antisymm}
use native.Mathlib.Decide.{le_ind, ℕ_discrete}
use native.Mathlib.Omega.{arith}
use Rattle.model.proofs.Lists.{le_or_lt}
use Rattle.model.proofs.Pairing.{view, apart, one_send, sent_there, received_there, process_there}
use Rattle.model.specs.Run.{Paired, Run, count, processes, IsState}
use Rattle.model.specs.Known.{Known}
use Rattle.model.specs.Cut.{Before, ClockIs, Consistent, IsCut, at}
use Rattle.model.specs.Sent.{ByMessage}
use Rattle.model.specs.Clocks.{ByClock, Clocks}
use Rattle.model.specs.Cut.Before.{next, message, through}

module _ {r : Run} where
  -- an earlier state of a process is before a later one
  pub later : {i k : ℕ} (m : ℕ) → 1 ≤ k → k ≤ m → suc m ≤ count r i → Before r i k i (suc m)
  later {i} {k} m p h =
      le_ind (λ m. suc m ≤ count r i → Before r i k i (suc m))
      (λ c. next (record { counted = p; there = omega arith }) (record { counted = omega arith; there = c }))
      (λ m g b c. through (b (omega arith)) (next (record { counted = omega arith; there = omega arith }) (record { counted = omega arith; there = c })))
      m h

  -- what a state is before, each earlier state of its process is before
  pub before_down : {i k n j l : ℕ} → 1 ≤ k → k ≤ n → n ≤ count r i → Before r i n j l → Before r i k j l
  before_down {i} {k} {n} {j} {l} p h c b = go n (eq-or-lt_of_le h) c b
    where
      go : (n : ℕ) → (k ≡ n) ⊎ (k < n) → n ≤ count r i → Before r i n j l → Before r i k j l
      go n (inl e) c b = rw e b
      go zero (inr g) c b = absurd (omega arith)
      go (suc m) (inr g) c b = through (later m p (omega arith) c) b

  -- what is before a state is before each later state of its process
  pub before_up : {i k j l n : ℕ} → Before r i k j l → 1 ≤ l → l ≤ n → n ≤ count r j → Before r i k j n
  before_up {i} {k} {j} {l} {n} b p h c = go n (eq-or-lt_of_le h) c
    where
      go : (n : ℕ) → (l ≡ n) ⊎ (l < n) → n ≤ count r j → Before r i k j n
      go n (inl e) c = rw (← e) b
      go zero (inr g) c = absurd (omega arith)
      go (suc m) (inr g) c = through b (later m p (omega arith) c)

module _ {r : Run} where
  -- both ends of before are in the run
  pub source : {i k j l : ℕ} → Before r i k j l → (k ≤ count r i) × (i < processes r)
  source (next s t) = (s.there, process_there s)
  source (message {i} {k} p) = let s : IsState r i (suc k) = sent_there (view p).send in (omega arith, process_there s)
  source (through b b') = source b

  pub target : {i k j l : ℕ} → Before r i k j l → IsState r j l
  target (next s t) = t
  target (message p) = received_there (view p).receive
  target (through b b') = target b'

module _ (r : Run) (known : Known r) where
  -- each message received up to a consistent cut was sent up to it
  by_message : (cut : List ℕ) → IsCut r cut → Consistent r cut → ByMessage r cut
  unfolding Consistent ByMessage
  by_message cut c ok j l m h e = let o = known.origin j l m e in (o.0, o.1, o.2, go o.0 o.1 o.2 (le_or_lt o.1 (at cut o.0)))
    where
      go : (i k : ℕ) → Paired r i k j l → (k ≤ at cut i) ⊎ (at cut i < k) → k ≤ at cut i
      go i k p (inl g) = g
      go i zero p (inr g) = absurd (omega arith)
      go i (suc k) p (inr g) =
          let s : IsState r i (suc k) = sent_there (view p).send in
          let t : IsState r j l = received_there e in
          let a = c.states i (process_there s) in
          let b = c.states j (process_there t) in
          absurd (ok i j (apart r known p) (before_up (before_down a.counted (omega arith) (omega arith) (message p)) t.counted h b.there))

  -- where each message received up to a cut was sent up to it, what is before a state up to the cut is below the cut
  below : (cut : List ℕ) → ByMessage r cut → {i k j l : ℕ} → Before r i k j l → l ≤ at cut j → k < at cut i
  unfolding ByMessage
  below cut ok (next s t) h = h
  below cut ok (message {i} {k} {j} {l} p) h =
      let q = ok j l (view p).received h (view p).receive in
      let o = one_send r known p q.2 in
      rw o.0 (omega (arith, q.3, o.1))
  below cut ok (through b b') h = below cut ok b (omega (arith, below cut ok b' h))

  pub consistent_by_message : (cut : List ℕ) → IsCut r cut → Consistent r cut ↔ ByMessage r cut
  unfolding Consistent
  consistent_by_message cut c = (by_message cut c, λ ok i j n b. absurd (omega (arith, below cut ok b (omega arith))))

-- the clock's numbers are determined
pub clock_unique : {r : Run} {j l i k k' : ℕ} → ClockIs r j l i k → ClockIs r j l i k' → k ≡ k'
clock_unique {r} {j} {l} {i} {k} {k'} a b = elim (ℕ_discrete i j) [ yes e ↦ a.own e ∙ sym (b.own e) | no n ↦ le_antisymm (go n a b) (go n b a) ]
  where
    go : {k k' : ℕ} → i ≢ j → ClockIs r j l i k → ClockIs r j l i k' → k ≤ k'
    go {k} {k'} n a b = ⊎_elim (λ z. omega arith) (λ w. b.bound n k w) (a.reached n)

-- a cut is consistent exactly if its clocks say so
pub consistent_by_clock : (r : Run) (clock : ℕ → ℕ → ℕ → ℕ) (cut : List ℕ) → Clocks r clock → IsCut r cut → Consistent r cut ↔ ByClock r clock cut
unfolding Consistent ByClock Clocks
consistent_by_clock r clock cut rule c = (to, from)
  where
    to : Consistent r cut → ByClock r clock cut
    to ok i j p q n =
        let w = rule j (at cut j) i (c.states j q) p in
        let s = c.states i p in
        ⊎_elim (λ g. g) (λ g. absurd (⊎_elim (λ z. omega arith) (λ b. ok i j n (before_down s.counted (omega arith) (source b).0 b)) (w.reached n))) (le_or_lt (suc (clock j (at cut j) i)) (at cut i))

    from : ByClock r clock cut → Consistent r cut
    from ok i j n b =
        let p = (source b).1 in
        let q = process_there (target b) in
        absurd (omega (arith, ok i j p q n, (rule j (at cut j) i (c.states j q) p).bound n (at cut i) b))
