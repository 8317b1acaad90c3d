-- The ordering: a state more is done, or a process waits; where all wait, the rest is on a circle or after one. Letters as in specs/Order.
use mathlib.Core.Path.{◌≡◌, refl, sym, ap, ◌∙◌, subst}
use mathlib.Core.Logic.{◌⊎◌, inl, inr, ⊎_elim, ◌≢◌}
use mathlib.Core.Bool.{Bool, true, false, cond, ◌||◌}
use mathlib.Core.List.{List}
use Prim.Native.Nat.{ℕ, zero, suc, ◌+◌, ◌-◌, ◌*◌, ◌≤◌, ◌<◌, max}
use native.Mathlib.Nat.{eq-or-lt_of_le}
use native.Mathlib.Numerals.{add-one}
use native.Mathlib.Decide.{ℕ_discrete}
use native.Mathlib.Omega.{arith}
use borrow.Author.Tests.{eq-eqb, ne_eqb}
use lib.Dec.{eqb}
use lib.ListN.{length, get_or, set, length-set}
use lib.Seq.{get_or-set_same, get_or-set_other}
use Rattle.std.specs.Prelude.{Option, Some, None}
use Rattle.std.specs.Option.{IfSome, IsSomeAnd}
use Rattle.std.specs.Bool.{MatchBool}
use Rattle.record.specs.Inner.{clock_place}
use Rattle.model.specs.declared.Message.{Message}
use Rattle.model.specs.declared.Event.TheVariants.{Receive}
use Rattle.model.specs.Run.{Run, into, channel, count, processes, IsState, Paired}
use Rattle.model.specs.Known.{Known}
use Rattle.model.specs.Cut.{AfterCircle, ClockIs}
use Rattle.model.specs.Clocks.{Clocks}
use Rattle.model.proofs.Numbers.{never, below_next}
use Rattle.model.proofs.Lists.{le_or_lt}
use Rattle.model.proofs.Pairing.{view, sent_there, sent_later, process_there, receive_start, first_start, from_end, apart, one_send}
use Rattle.model.proofs.Order.{clock_unique}
use Rattle.model.proofs.Circle.{Direct, clear, waiting_circle}
use Rattle.model.proofs.Clock.{clock_own, clock_first, clock_step, clock_receive}
use Rattle.record.specs.Bytes.{u16_at}
use Rattle.run.specs.Said.{run_in, place_of, recorded_clock}
use Rattle.run.specs.Index.{slot, partner_at, clock_row, clock_in, HasSlot, Partnered, index_size}
use Rattle.judged.specs.declared.Ahead.{Ahead}
use Rattle.run.proofs.Listed.{ok, processes_are}
use Rattle.run.proofs.Kept.{kept_matched}
use Rattle.judged.specs.Inner.{Clocked}
use Rattle.judged.specs.Order.{AheadIs, ClockRoom, number_at, number_ahead, number_of, Written, Sound, Waits, Ordering, Advanced, Swept, Ordered, Compared}
use Rattle.judged.specs.Order.AheadIs.{nothing, sent}
use Rattle.model.specs.Total.{total}
use Rattle.judged.proofs.Processes.{Small, slot_one, small_run}
use Rattle.model.proofs.Total.{total-set, total_few}

-- ---- the state ahead of the send

module _ (r : Run) (known : Known r) where
  module _ (ix : List ℕ) (w : Partnered r ix) (p k : ℕ) (m : Message) (e : into r p k ≡ Receive m) where
    pub ahead_later : 2 ≤ get_or ix (partner_at p k) 0
    ahead_later = let (i, l, q) = known.origin p k m e in omega (arith, w.received i l p k q, sent_later r known q)

    pub ahead_receive : (a : Ahead) → a.process ≡ (channel r m.channel).from → a.state ≡ get_or ix (partner_at p k) 0 - 1 → AheadIs r p k (Some a)
    ahead_receive a g h =
        let (i, l, q) = known.origin p k m e in
        let v = view q in
        let same : v.received ≡ m = cc (v.receive, e) in
        let from : i ≡ a.process = sym (from_end r known v) ∙ ap (λ n. (channel r n.channel).from) same ∙ sym g in
        let number : l ≡ suc a.state = omega (arith, w.received i l p k q, h, ahead_later) in
        sent a (omega (arith, h, ahead_later)) (rw (← from, ← number) q)

  -- it is another process's state, where there is one
  pub ahead_apart : {p k : ℕ} {a : Option Ahead} → AheadIs r p k a → IfSome a (λ a. a.process ≢ p)
  ahead_apart (nothing c) = tt
  ahead_apart (sent a h q) = apart r known q

  pub ahead_small : Small r → {p k : ℕ} {a : Option Ahead} → AheadIs r p k a → IfSome a (λ a. HasSlot a.process a.state)
  ahead_small small (nothing c) = tt
  ahead_small small (sent a h q) = let t = small a.process (suc a.state) (sent_there (view q).send) in record { process = t.0; counted = h; few = omega (arith, t.1) }

-- ---- a clock is written

number_none : (ix : List ℕ) (p k x : ℕ) → k ≡ 0 → number_at ix p k x ≡ 0
unfolding number_at
number_none ix p k x e = simp (eq-eqb k 0 e)

number_there : (ix : List ℕ) (p k x : ℕ) → k ≢ 0 → number_at ix p k x ≡ clock_in ix p k x
unfolding number_at
number_there ix p k x n = simp (ne_eqb k 0 n)

pub number_other : (ix : List ℕ) (p k : ℕ) (o : Option Ahead) (x a b n : ℕ) → x ≢ p → a ≡ number_at ix p (k - 1) x → b ≡ number_ahead ix o x → n ≡ max a b
    → n ≡ number_of ix p k o x
unfolding number_of
number_other ix p k o x a b n d e f g = simp (ne_eqb x p d) (g ∙ ap (λ a. max a b) e ∙ ap (max (number_at ix p (k - 1) x)) f)

module _ {ix : List ℕ} {p k : ℕ} {o : Option Ahead} (room : ClockRoom ix p k o) (other : IfSome o (λ a. a.process ≢ p)) where
  -- what it is worked out from stays
  number_same : (n : ℕ) (ix' : List ℕ) → Written n p k o ix ix' → (x : ℕ) → x < 8 → number_of ix' p k o x ≡ number_of ix p k o x
  unfolding number_of number_ahead
  number_same n ix' w x h = ap (cond (eqb x p) k) (ap (λ a. max a (number_ahead ix' o x)) own ∙ ap (max (number_at ix p (k - 1) x)) (ahead o room.ahead other))
    where
      own : number_at ix' p (k - 1) x ≡ number_at ix p (k - 1) x
      own = elim (ℕ_discrete (k - 1) 0) [
        | yes e ↦ number_none ix' p (k - 1) x e ∙ sym (number_none ix p (k - 1) x e)
        | no d ↦ number_there ix' p (k - 1) x d ∙ w.rest (clock_row p (k - 1) + x) (inl (omega arith)) ∙ sym (number_there ix p (k - 1) x d)
      ]

      ahead : (a : Option Ahead) → IfSome a (λ a. HasSlot a.process a.state) → IfSome a (λ a. a.process ≢ p) → number_ahead ix' a x ≡ number_ahead ix a x
      ahead None t z = refl
      ahead (Some a) t z = w.rest (clock_row a.process a.state + x) (⊎_elim (λ g. inr (omega arith)) (λ g. inl (omega arith)) (le_or_lt (suc p) a.process))

  pub written_next : (n : ℕ) → n < 8 → (ix' : List ℕ) → length ix' ≡ index_size → Written n p k o ix ix' → (v : ℕ) → v ≡ number_of ix' p k o n
      → Written (n + 1) p k o ix (set ix' (clock_row p k + n) v)
  written_next n h ix' long w v q = record {
    row = λ x g. below_next (λ x. clock_in (set ix' (clock_row p k + n) v) p k x ≡ number_of ix p k o x) g
        (get_or-set_same ix' (clock_row p k + n) _ 0 (omega arith) ∙ q ∙ number_same n ix' w n h)
        (λ z. get_or-set_other ix' (clock_row p k + n) (clock_row p k + x) _ 0 (λ e. absurd (omega arith)) ∙ w.row x z);
    rest = λ x g. get_or-set_other ix' (clock_row p k + n) x _ 0 (λ e. ⊎_elim (λ z. absurd (omega arith)) (λ z. absurd (omega arith)) g) ∙ w.rest x g;
  }

-- ---- a state more

-- state d + 1 of process p is the next one, and what it waits for is done
module _ (r : Run) (known : Known r) (small : Small r) (p d : ℕ) (done ix ix' : List ℕ) (o : Option Ahead) (is : get_or done p 0 ≡ d) (eight : length done ≡ 8) (more : d < count r p)
    (w : Sound r done ix) (a : AheadIs r p (suc d) o) (ready : IfSome o (λ a. a.state ≤ get_or done a.process 0)) (v : Written (processes r) p (suc d) o ix ix') where
  here : IsState r p (suc d)
  here = record { counted = omega arith; there = more }

  -- its direct predecessors are done
  new_clear : ¬ AfterCircle r p (suc d)
  new_clear = clear r step
    where
      pair : (j m : ℕ) {o : Option Ahead} → AheadIs r p (suc d) o → IfSome o (λ a. a.state ≤ get_or done a.process 0) → Paired r j (suc m) p (suc d) → ¬ AfterCircle r j m
      pair j m (nothing z) y q = absurd (z (view q).received (view q).receive)
      pair j m (sent b h q') y q =
          let u = one_send r known q q' in
          let e : m ≡ b.state = omega (arith, u.1) in
          let s : IsState r b.process (suc b.state) = sent_there (view q').send in
          rw (u.0, e) (w.clear b.process b.state (record { counted = h; there = omega (arith, s.there) }) y)

      step : (j m : ℕ) → Direct r j m p (suc d) → ¬ AfterCircle r j m
      step j m = ⊎_elim
          (λ (x : (j ≡ p) × (suc m ≡ suc d) × IsState r j m). w.clear j m x.2 (omega (arith, x.1, ap (λ j. get_or done j 0) x.0)))
          (λ q. pair j m a ready q)

  new_clock : (x : ℕ) → x < processes r → ClockIs r p (suc d) x (number_of ix p (suc d) o x)
  unfolding number_of number_ahead
  new_clock x g = elim (ℕ_discrete x p) [
    | yes e ↦ simp (eq-eqb x p e) (rw e (clock_own r p (suc d)))
    | no n ↦ simp (ne_eqb x p n) (subst (λ k. ClockIs r p (suc d) x (max (number_at ix p k x) (number_ahead ix o x))) (omega arith) (other n d refl a ready))
  ]
    where
      old : (j m : ℕ) → IsState r j m → m ≤ get_or done j 0 → ClockIs r j m x (number_at ix j m x)
      old j m t h = rw (number_there ix j m x (λ z. absurd (omega (arith, t.counted)))) (w.clocks j m x t h g)

      other : x ≢ p → (b : ℕ) → d ≡ b → {o : Option Ahead} → AheadIs r p (suc b) o → IfSome o (λ a. a.state ≤ get_or done a.process 0)
          → ClockIs r p (suc b) x (max (number_at ix p b x) (number_ahead ix o x))
      other n zero e (nothing q) y =
          let same : 0 ≡ max (number_at ix p 0 x) 0 = omega (arith, number_none ix p 0 x refl) in
          rw (← same) (clock_first r known p x n)
      other n zero e (sent a h q) y = absurd (receive_start (sym (view q).receive ∙ first_start r known p))
      other n (suc b) e (nothing q) y =
          let s : IsState r p (suc b) = record { counted = omega arith; there = omega (arith, more, e) } in
          let t : IsState r p (suc (suc b)) = record { counted = omega arith; there = omega (arith, more, e) } in
          let same : number_at ix p (suc b) x ≡ max (number_at ix p (suc b) x) 0 = omega arith in
          subst (ClockIs r p (suc (suc b)) x) same (clock_step r known p (suc b) x (number_at ix p (suc b) x) n s t q (old p (suc b) s (omega (arith, e))))
      other n (suc b) e (sent a h q) y =
          let s : IsState r p (suc b) = record { counted = omega arith; there = omega (arith, more, e) } in
          let f : IsState r a.process (suc a.state) = sent_there (view q).send in
          let u : IsState r a.process a.state = record { counted = h; there = omega (arith, f.there) } in
          clock_receive r known p (suc b) a.process a.state x _ _ n s q (w.clear a.process a.state u y) (old p (suc b) s (omega (arith, e)))
          (w.clocks a.process a.state x u y g)

  abbrev done' : List ℕ
  done' = set done p (d + 1)

  at_own : get_or done' p 0 ≡ suc d
  at_own = get_or-set_same done p _ 0 (omega (arith, small p _ here, eight)) ∙ add-one _

  at_other : (q : ℕ) → q ≢ p → get_or done' q 0 ≡ get_or done q 0
  at_other q n = get_or-set_other done p q _ 0 n

  -- a state that is done now is the new one, or was done
  new_or_old : (q m : ℕ) → m ≤ get_or done' q 0 → ((q ≡ p) × (m ≡ suc d)) ⊎ ((m ≤ get_or done q 0) × ((q ≢ p) ⊎ (m < suc d)))
  new_or_old q m h = elim (ℕ_discrete q p) [
    | yes e ↦ ⊎_elim (λ z. inl (e, z)) (λ z. inr (omega (arith, ap (λ q. get_or done q 0) e), inr z)) (eq-or-lt_of_le (omega (arith, at_own, ap (λ q. get_or done' q 0) e)))
    | no n ↦ inr (omega (arith, at_other q n), inl n)
  ]

  -- the clocks of other states stay
  kept_clock : (j m x : ℕ) → IsState r j m → (j ≢ p) ⊎ (m < suc d) → x < processes r → clock_in ix' j m x ≡ clock_in ix j m x
  kept_clock j m x t n g = v.rest (clock_row j m + x) (apart_by (λ e. let u = slot_one r small t here e in ⊎_elim (λ k. k u.0) (λ k. absurd (omega (arith, u.1))) n) eighth)
    where
      eighth : x < 8
      eighth = omega (arith, small x 1 (record { counted = omega arith; there = known.sides.peopled x g }))

      apart_by : slot j m ≢ slot p (suc d) → x < 8
          → (clock_row j m + x < clock_row p (suc d)) ⊎ (clock_row p (suc d) + 8 ≤ clock_row j m + x)
      apart_by n h = ⊎_elim (λ k. inl (omega arith)) (λ k. inr (omega arith)) (le_or_lt (suc (slot j m)) (slot p (suc d)))

  sound_next : Sound r done' ix'
  sound_next = record {
    within = λ q. elim (ℕ_discrete q p) [
      | yes e ↦ omega (arith, more, at_own, ap (λ q. get_or done' q 0) e, ap (count r) e)
      | no n ↦ omega (arith, at_other q n, w.within q)
    ];
    clear = λ q m t h. ⊎_elim (λ e. rw (e.0, e.1) new_clear) (λ o. w.clear q m t o.0) (new_or_old q m h);
    clocks = λ j m x t h g. ⊎_elim
        (λ e. rw (e.0, e.1) (rw (v.row x g) (new_clock x g)))
        (λ o. rw (kept_clock j m x t o.1 g) (w.clocks j m x t o.0 g))
        (new_or_old j m h);
  }

-- ---- a turn of a process

module _ {s ix done : List ℕ} {n : ℕ} (w : Ordering s ix done n) where
  abbrev run : Run
  run = run_in s

  pub few_processes : n ≤ 8
  few_processes = omega (arith, w.all, (ok s w.matched.listed.read).head.few)

  pub advanced_on : (p : ℕ) (o : Option Ahead) (ix' : List ℕ) → length ix' ≡ length ix → get_or done p 0 < count run p → AheadIs run p (get_or done p 0 + 1) o
      → IfSome o (λ a. a.state ≤ get_or done a.process 0) → Written n p (get_or done p 0 + 1) o ix ix' → Advanced s n p done (set done p (get_or done p 0 + 1)) ix' true
  advanced_on p o ix' long more a ready v =
      let m = w.matched in
      let n = w.all ∙ sym (processes_are s m.listed.read) in
      let k = add-one (get_or done p 0) in
      let a' = subst (λ k. AheadIs run p k o) k a in
      let v' = subst (λ k. Written (processes run) p k o ix ix') k (subst (λ n. Written n p (get_or done p 0 + 1) o ix ix') n v) in
      record {
        ordering = record {
          matched = kept_matched (record { long = long; same = λ x h. v.rest x (inl (omega arith)) }) m;
          eight = length-set done p (get_or done p 0 + 1) ∙ w.eight;
          all = w.all;
          sound = sound_next run m.known (small_run m.listed) p _ done ix ix' o refl w.eight more w.sound a' ready v';
        };
        moved = λ e. refl;
        waits = λ e. never (cc);
      }

  -- a process that is finished, or whose next state waits
  stays : (p : ℕ) → Waits run done p → Advanced s n p done done ix false
  stays p v = record { ordering = w; moved = λ e. never (cc); waits = λ e. (refl, v) }

  pub advanced_end : (p : ℕ) → count run p ≤ get_or done p 0 → Advanced s n p done done ix false
  unfolding Waits
  advanced_end p h = stays p (λ g. absurd (omega arith))

  pub advanced_wait : (p : ℕ) {o : Option Ahead} → AheadIs run p (get_or done p 0 + 1) o → IsSomeAnd o (λ a. get_or done a.process 0 < a.state) → Advanced s n p done done ix false
  unfolding Waits
  advanced_wait p (nothing w) h = absurd h
  advanced_wait p (sent a b q) h = stays p (λ g. (a.process, a.state, rw add-one at q, h))

-- ---- a turn for each process

module _ (s : List ℕ) (n : ℕ) where
  pub swept_next : (p : ℕ) (done mid done' ix ix' : List ℕ) (b c : Bool) → p < n → Swept s n p done mid ix b → Advanced s n p mid done' ix' c
      → Swept s n (p + 1) done done' ix' (b || c)
  swept_next p done mid done' ix ix' b true h w v =
      let inside : p < length mid = omega (arith, w.ordering.eight, few_processes w.ordering) in
      let e : total done' ≡ total mid + 1 = ap total (v.moved refl) ∙ total-set mid p inside in
      record { ordering = v.ordering; more = omega (arith, w.more); moved = λ z. omega (arith, w.more); waits = go b }
    where
      go : (b : Bool) → (b || true) ≡ false → (q : ℕ) → q < p + 1 → Waits (run_in s) done' q
      go true e = never (cc)
      go false e = never (cc)
  swept_next p done mid done' ix ix' true false h w v =
      let e = ap total (v.waits refl).0 in
      record { ordering = v.ordering; more = omega (arith, w.more); moved = λ z. omega (arith, w.moved refl); waits = λ e. never (cc) }
  swept_next p done mid done' ix ix' false false h w v =
      let e = ap total (v.waits refl).0 in
      record {
        ordering = v.ordering;
        more = omega (arith, w.more);
        moved = λ e. never (cc);
        waits = λ z q g. rw (v.waits refl).0 (below_next (Waits (run_in s) mid) g (v.waits refl).1 (w.waits refl q));
      }

  -- a bound on what is left to do
  pub swept_less : (p : ℕ) (done done' ix : List ℕ) (b : Bool) → Swept s n p done done' ix b → b ≡ true → 4096 - total done' < 4096 - total done
  swept_less p done done' ix b w t =
      omega (arith, w.moved t, w.ordering.eight, total_few done' (λ q h. omega (arith, w.ordering.sound.within q, few q)))
    where
      few : (q : ℕ) → count (run_in s) q ≤ 512
      few q = ⊎_elim
          (λ h. h)
          (λ h. (small_run w.ordering.matched.listed q (count (run_in s) q) (record { counted = omega arith; there = omega arith })).1)
          (le_or_lt (count (run_in s) q) 512)

  -- where all wait, what isn't done is on a circle or after one
  pub ordered : (done done' ix : List ℕ) (b : Bool) → Swept s n n done done' ix b → b ≡ false → Ordered s done' ix
  unfolding Waits
  ordered done done' ix b w t = record {
    sound = o.sound;
    caught = λ p k u h. waiting_circle (run_in s) (λ p. get_or done' p 0) (λ j g. w.waits t j (there j g) g) p k h u.there;
  }
    where
      o : Ordering s ix done' n
      o = w.ordering

      there : (j : ℕ) → get_or done' j 0 < count (run_in s) j → j < n
      there j g =
          let u : IsState (run_in s) j (suc (get_or done' j 0)) = record { counted = omega arith; there = g } in
          omega (arith, process_there u, o.all, processes_are s o.matched.listed.read)

-- ---- clocks other than the index's

-- a state whose record stands at place q
module _ {s ix : List ℕ} {n : ℕ} (w : Clocked s ix n) (p k q : ℕ) (place : q ≡ place_of s p k) (t : IsState (run_in s) p k) where
  abbrev recorded : ℕ → ℕ
  recorded x = u16_at s (q + clock_place + 2 * x)

  abbrev listed : ℕ → ℕ
  listed x = clock_in ix p k x

  same_place : (x : ℕ) → recorded x ≡ recorded_clock s p k x
  same_place x = ap (λ q. u16_at s (q + clock_place + 2 * x)) place

  same_number : n ≡ processes (run_in s)
  same_number = w.all ∙ sym (processes_are s w.listed.read)

  compared_differs : (x y : ℕ) → x < n → y ≡ recorded x → y ≢ listed x → Compared s p k true
  unfolding Clocks
  compared_differs x y h e d =
      let there : x < processes (run_in s) = omega (arith, same_number) in
      record {
        differs = λ z. record { place = x; there = there; wrong = λ c. d (e ∙ same_place x ∙ clock_unique c (w.clocks p k x t there)) };
        agrees = λ z. never (cc);
      }

  compared_agrees : ((x : ℕ) → x < n → recorded x ≡ listed x) → Compared s p k false
  unfolding Clocks
  compared_agrees same = record {
    differs = λ z. never (cc);
    agrees = λ z v.
        let x = v.place in
        let right : recorded_clock s p k x ≡ listed x = sym (same_place x) ∙ same x (omega (arith, same_number, v.there)) in
        v.wrong (rw right (w.clocks p k x t v.there));
  }

  -- what looking at each of them tells
  pub compared : (b : Bool) → MatchBool b ((x : ℕ) × (0 ≤ x) × (x < n) × (recorded x ≢ listed x)) ((x : ℕ) → 0 ≤ x → x < n → recorded x ≡ listed x) → Compared s p k b
  compared true (x, a, h, d) = compared_differs x (recorded x) h refl d
  compared false w = compared_agrees (λ x h. w x (omega arith) h)
