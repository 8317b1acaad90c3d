-- Circles: a state all of whose direct predecessors are clear of circles is clear; and where every process that is not finished waits for a
-- receive whose send is not reached, all that is left is on a circle or after one.
use mathlib.Core.Path.{◌≡◌, refl, sym, subst}
use mathlib.Core.Logic.{◌⊎◌, inl, inr, ⊎_elim, ◌≢◌}
use Prim.Native.Nat.{ℕ, zero, suc, ◌≤◌, ◌<◌}
use native.Mathlib.Nat.{eq-or-lt_of_le}
use native.Mathlib.Decide.{le_ind, ℕ_discrete}
use native.Mathlib.Omega.{arith}
use Rattle.model.proofs.Order.{before_down, before_up}
use Rattle.model.proofs.Pairing.{process_there, sent_there, view}
use Rattle.model.specs.Run.{Paired, IsState, Run, count, processes}
use Rattle.model.specs.Cut.{AfterCircle, Before}
use Rattle.model.specs.Cut.Before.{next, message, through}

-- ---- pigeonhole

find : (g : ℕ → ℕ) (v n : ℕ) → ((x : ℕ) × (x ≤ n) × (g x ≡ v)) ⊎ ((x : ℕ) → x ≤ n → g x ≢ v)
find g v zero = elim (ℕ_discrete (g 0) v) [ yes e ↦ inl (0, omega arith, e) | no n ↦ inr (λ x h e. n (rw (lemma x h) at e)) ]
  where
    lemma : (x : ℕ) → x ≤ 0 → x ≡ 0
    lemma x h = omega arith
find g v (suc n) = go (find g v n) (ℕ_discrete (g (suc n)) v)
  where
    go : ((x : ℕ) × (x ≤ n) × (g x ≡ v)) ⊎ ((x : ℕ) → x ≤ n → g x ≢ v) → Dec (g (suc n) ≡ v)
        → ((x : ℕ) × (x ≤ suc n) × (g x ≡ v)) ⊎ ((x : ℕ) → x ≤ suc n → g x ≢ v)
    go d (yes e) = inl (suc n, omega arith, e)
    go (inl d) (no m) = inl (d.0, omega (arith, d.1), d.2)
    go (inr d) (no m) = inr (λ x h e. ⊎_elim (λ z. m (rw z at e)) (λ z. d x (omega arith) e) (eq-or-lt_of_le h))

-- v where the number is n, else the number
swap : (n v : ℕ) {y : ℕ} → Dec (y ≡ n) → ℕ
swap n v (yes e) = v
swap n v {y} (no e) = y

swap_lt : {n v y : ℕ} (d : Dec (y ≡ n)) → v ≤ n → y ≤ n → y ≢ v → swap n v d < n
unfolding swap
swap_lt (yes e) p q w = omega arith
swap_lt (no e) p q w = omega arith

swap_inj : {n v y z : ℕ} (d : Dec (y ≡ n)) (f : Dec (z ≡ n)) → y ≢ v → z ≢ v → swap n v d ≡ swap n v f → y ≡ z
unfolding swap
swap_inj (yes e) (yes e') p q h = omega arith
swap_inj (yes e) (no e') p q h = absurd (q (sym h))
swap_inj (no e) (yes e') p q h = absurd (p h)
swap_inj (no e) (no e') p q h = h

-- n + 1 numbers below n: two of them are the same
pub pigeon : (n : ℕ) (g : ℕ → ℕ) → ((x : ℕ) → x ≤ n → g x < n) → (a : ℕ) × (b : ℕ) × (a < b) × (b ≤ n) × (g a ≡ g b)
pigeon zero g h = absurd (omega (arith, h 0 (omega arith)))
pigeon (suc n) g h = go (find g v n) (λ w. pigeon n (λ x. swap n v (ℕ_discrete (g x) n))
    (λ x p. swap_lt (ℕ_discrete (g x) n) (omega (arith, h (suc n) (omega arith))) (omega (arith, h x (omega arith))) (w x p)))
  where
    v : ℕ
    v = g (suc n)

    go : ((x : ℕ) × (x ≤ n) × (g x ≡ v)) ⊎ ((x : ℕ) → x ≤ n → g x ≢ v)
        → (((x : ℕ) → x ≤ n → g x ≢ v) → (a : ℕ) × (b : ℕ) × (a < b) × (b ≤ n) × (swap n v (ℕ_discrete (g a) n) ≡ swap n v (ℕ_discrete (g b) n)))
        → (a : ℕ) × (b : ℕ) × (a < b) × (b ≤ suc n) × (g a ≡ g b)
    go (inl (x, p, e)) k = (x, suc n, omega arith, omega arith, e)
    go (inr w) k =
        let (a, b, p, q, e) = k w in
        (a, b, p, omega arith, swap_inj (ℕ_discrete (g a) n) (ℕ_discrete (g b) n) (w a (omega arith)) (w b q) e)

module _ (r : Run) where
  -- directly before: the state ahead in the same process, or the one ahead of the send
  abbrev pub Direct : ℕ → ℕ → ℕ → ℕ → Type 0
  Direct i k j l = ((i ≡ j) × (suc k ≡ l) × IsState r i k) ⊎ Paired r i (suc k) j l

  -- the last step of before
  pub last : {i k j l : ℕ} → Before r i k j l → (m : ℕ) × (n : ℕ) × Direct m n j l × (((i ≡ m) × (k ≡ n)) ⊎ Before r i k m n)
  last (next {i} {k} s t) = (i, k, inl (refl, refl, s), inl (refl, refl))
  last (message {i} {k} p) = (i, k, inr p, inl (refl, refl))
  last (through {i} {k} b b') = go b (last b')
    where
      go : {i k j l m n : ℕ} → Before r i k j l → (p : ℕ) × (q : ℕ) × Direct p q m n × (((j ≡ p) × (l ≡ q)) ⊎ Before r j l p q)
          → (p : ℕ) × (q : ℕ) × Direct p q m n × (((i ≡ p) × (k ≡ q)) ⊎ Before r i k p q)
      go {i} {k} b (p, q, d, inl e) = (p, q, d, inr (rw (← e.0, ← e.1) b))
      go b (p, q, d, inr c) = (p, q, d, inr (through b c))

  -- a state all of whose direct predecessors are clear is clear
  pub clear : {j l : ℕ} → ((i k : ℕ) → Direct i k j l → ¬ AfterCircle r i k) → ¬ AfterCircle r j l
  clear {j} {l} h a =
      let b : Before r a.process a.number j l = ⊎_elim (λ e. rw (← e.0, ← e.1) a.circle) (λ b. b) a.reach in
      let (m, n, d, e) = last b in
      h m n d (record { process = a.process; number = a.number; circle = a.circle; reach = e })

  -- every process short of its limit has next a receive, and the state ahead of its send is not done and not past the limit
  pub Stuck : (ℕ → ℕ) → (ℕ → ℕ) → Type 0
  Stuck limit done = (j : ℕ) → done j < limit j → (i : ℕ) × (k : ℕ) × Paired r i (suc k) j (suc (done j)) × (done i < k) × (k ≤ limit i)

  module _ (limit done : ℕ → ℕ) (fits : (j : ℕ) → limit j ≤ count r j) (stuck : Stuck limit done) where
    -- a process short of its limit
    abbrev Short : Type 0
    Short = (j : ℕ) × (done j < limit j)

    -- what is next in one process is before what is next in another
    abbrev Ahead : Short → Short → Type 0
    Ahead q p = Before r q.0 (suc (done q.0)) p.0 (suc (done p.0))

    -- the process that it waits for is short of its limit too
    back : (p : Short) → (q : Short) × Ahead q p
    unfolding Stuck
    back (j, h) = let (i, k, p, g, w) = stuck j h in ((i, omega arith), before_down (omega arith) g (omega (arith, fits i)) (message p))

    walk : Short → ℕ → Short
    walk p zero = p
    walk p (suc n) = (back (walk p n)).0

    ahead : (p : Short) (m n : ℕ) → m ≤ n → Ahead (walk p (suc n)) (walk p m)
    unfolding walk
    ahead p m n h = le_ind (λ n. Ahead (walk p (suc n)) (walk p m)) (back (walk p m)).1 (λ n g b. through (back (walk p (suc n))).1 b) n h

    process_short : (p : Short) → p.0 < processes r
    process_short (j, h) = process_there {r = r} {k = suc (done j)} (record { counted = omega arith; there = omega (arith, fits j) })

    -- of a process short of its limit, all that is not done is on a circle or after one
    pub stuck_circle : (j l : ℕ) → done j < limit j → done j < l → l ≤ count r j → AfterCircle r j l
    unfolding walk
    stuck_circle j l w h g =
        let (a, b, x, y, e) = pigeon (processes r) (λ n. (walk p n).0) (λ n z. process_short (walk p n)) in
        go a b x e
      where
        p : Short
        p = (j, w)

        reach : (a : ℕ) → Ahead (walk p a) (walk p a) → Ahead (walk p a) p
        reach zero c = c
        reach (suc a) c = ahead p zero a (omega arith)

        go : (a b : ℕ) → a < b → (walk p a).0 ≡ (walk p b).0 → AfterCircle r j l
        go a zero x e = absurd (omega arith)
        go a (suc b) x e =
            let w = (walk p a).0 in
            let c : Ahead (walk p a) (walk p a) = subst (λ q. Before r q (suc (done q)) w (suc (done w))) (sym e) (ahead p a b (omega arith)) in
            record { process = w; number = suc (done w); circle = c; reach = inr (before_up (reach a c) (omega arith) h g) }

  -- the checker's case, all states: where every process that is not finished waits so, what is not done is on a circle or after one
  pub waiting_circle : (done : ℕ → ℕ) → ((j : ℕ) → done j < count r j → (i : ℕ) × (k : ℕ) × Paired r i (suc k) j (suc (done j)) × (done i < k))
      → (j l : ℕ) → done j < l → l ≤ count r j → AfterCircle r j l
  unfolding Stuck
  waiting_circle done w j l h g =
      stuck_circle (count r) done (λ j. omega arith)
      (λ j h. let (i, k, p, x) = w j h in let s : IsState r i (suc k) = sent_there (view p).send in (i, k, p, x, omega arith))
      j l (omega arith) h g
