-- Laws of the pairing: what a search over a history tells, the marks, and faults and clear states. Letters as in specs/Pairing.
use mathlib.Core.Path.{◌≡◌, refl, sym, ap, ◌∙◌}
use mathlib.Core.Logic.{inl, inr}
use mathlib.Core.Bool.{Bool, true, false, not}
use mathlib.Core.List.{List}
use mathlib.Core.Option.{Option as Maybe, some, none}
use Prim.Native.Nat.{ℕ, ◌+◌, ◌-◌, ◌≤◌, ◌<◌}
use native.Mathlib.Decide.{ℕ_discrete}
use native.Mathlib.Omega.{arith}
use borrow.Author.Tests.{not-true, not-false}
use lib.Dec.{T, eqb, eqb→eq}
use lib.ListN.{length, get_or, set}
use lib.Seq.{get_or-set_same, get_or-set_other}
use Rattle.std.specs.Prelude.{Option, Some, None, is_some, MatchOption}
use Rattle.model.proofs.Numbers.{never, positive, below_next, T_of, not_T_of}
use Rattle.model.specs.declared.Message.{Message}
use Rattle.model.specs.declared.Event.{Event}
use Rattle.model.specs.declared.Event.TheVariants.{Start, Internal, Send, Receive}
use Rattle.model.specs.Run.{Run, count, channel, state, into, IsState, sending, receiving, same_message, paired, Paired}
use Rattle.model.specs.Known.{Sides}
use Rattle.model.proofs.Lists.{and_T, T_and, eq→eqb}
use Rattle.model.proofs.Messages.{no_receive}
use Rattle.model.proofs.Pairing.{view, from_side, sent_there}
use Rattle.run.specs.Said.{run_in}
use Rattle.run.specs.Index.{partner_at}
use Rattle.judged.specs.Pairing.{which, carries, Carrier, SendIs, mark_at, Rising, Marking, Higher, Repeats, Received, PairingAt, Settled}
use Rattle.judged.specs.Pairing.Carrier.{absent, present}
use Rattle.judged.specs.Pairing.Faulty.{again, alone}

-- ---- an event and a message

pub carries_start : (sends : Bool) (m : Message) → false ≡ carries sends Start m
unfolding carries which
carries_start true m = refl
carries_start false m = refl

pub carries_internal : (sends : Bool) (m : Message) → false ≡ carries sends Internal m
unfolding carries which
carries_internal true m = refl
carries_internal false m = refl

pub not_both : {e : Event} {m n : Message} → e ≡ Send m → e ≡ Receive n → ⊥
not_both e g = never (cc (e, g))

-- two messages that are the same have one channel and one number
pub same_parts : (o p : Maybe Message) → T (same_message o p) → (m : Message) × (n : Message) × (o ≡ some m) × (p ≡ some n) × (m.channel ≡ n.channel) × (m.number ≡ n.number)
same_parts none p t = absurd t
same_parts (some m) none t = absurd t
same_parts (some m) (some n) t =
    let (x, y) = and_T (eqb m.channel n.channel) (eqb m.number n.number) t in
    (m, n, refl, refl, eqb→eq m.channel n.channel x, eqb→eq m.number n.number y)

pub parts_same : {o p : Maybe Message} (m n : Message) → o ≡ some m → p ≡ some n → m.channel ≡ n.channel → m.number ≡ n.number → T (same_message o p)
parts_same m n a b x y =
    rw (a, b) (T_and (eqb m.channel n.channel) (eqb m.number n.number) (eq→eqb m.channel n.channel x) (eq→eqb m.number n.number y))

-- ---- marks

pub mark_less : (sends : Bool) (c : ℕ) → c < 16 → mark_at sends c < 32
unfolding mark_at
mark_less true c h = omega arith
mark_less false c h = omega arith

-- the marks have the entry of a channel
pub mark_inside : {r : Run} {sends : Bool} {p k c : ℕ} {marks : List ℕ} → Marking r sends p k c marks → (mark_at sends c < 32) × (mark_at sends c < length marks)
mark_inside {sends = sends} {c = c} w = let h = mark_less sends c w.channel in (h, omega (arith, h, w.long))

-- state 0 is none, and carries nothing
no-state : (r : Run) (p : ℕ) (sends : Bool) (m : Message) → ¬ T (carries sends (into r p 0) m)
unfolding into state carries which
no-state r p true m t = t
no-state r p false m t = t

module _ (r : Run) (p k : ℕ) (sends : Bool) (m : Message) (marks : List ℕ) where
  -- a number at or above the mark is new, and raises it
  pub repeats_raised : Marking r sends p k m.channel marks → get_or marks (mark_at sends m.channel) 0 ≤ m.number
      → Repeats r p k sends m marks (set marks (mark_at sends m.channel) (m.number + 1)) false
  unfolding Rising carries
  repeats_raised w h = record {
    higher = λ i. elim (ℕ_discrete i (mark_at sends m.channel)) [
      | yes e ↦ rw (e, get_or-set_same marks (mark_at sends m.channel) (m.number + 1) 0 inside) (omega arith)
      | no d ↦ rw (get_or-set_other marks (mark_at sends m.channel) i (m.number + 1) 0 d) (omega arith)
    ];
    own = rw (get_or-set_same marks (mark_at sends m.channel) (m.number + 1) 0 inside) (omega arith);
    earlier = λ e. never (cc);
    new = λ e l g t.
        let (n, m', a, b, x, y) = same_parts (which sends (into r p l)) (some m) t in
        let same : m' ≡ m = cc (b) in
        absurd (omega (arith, w.rising l n g a, h, y, ap (λ m. m.number) same, ap (λ c. get_or marks (mark_at sends c) 0) (x ∙ ap (λ m. m.channel) same)));
  }
    where
      inside : mark_at sends m.channel < length marks
      inside = omega (arith, w.long, mark_less sends m.channel w.channel)

  -- else an earlier state is looked for
  pub repeats_found : (x : Option ℕ) → m.number < get_or marks (mark_at sends m.channel) 0 → Carrier r p 1 (k - 1) sends m x → Repeats r p k sends m marks marks (is_some x)
  repeats_found x h (absent w) = record {
    higher = λ i. omega arith;
    own = h;
    earlier = λ z. never (cc);
    new = λ z l g t. elim (ℕ_discrete l 0) [ yes n ↦ no-state r p sends m (rw n at t) | no n ↦ w l (positive n) (omega arith) t ];
  }
  repeats_found x h (present l a c t) = record {
    higher = λ i. omega arith;
    own = h;
    earlier = λ z. (l, a, omega arith, t);
    new = λ z. never (cc);
  }

-- ---- a search

-- what `find` over the states tells
pub carrier_found : (r : Run) (p low high : ℕ) (sends : Bool) (m : Message) (x : Option ℕ)
    → MatchOption x ((k : ℕ) → low ≤ k → k < high + 1 → carries sends (into r p k) m ≡ false)
    (λ i. (low ≤ i) × (i < high + 1) × (carries sends (into r p i) m ≡ true) × ((k : ℕ) → low ≤ k → k < i → carries sends (into r p k) m ≡ false))
    → Carrier r p low high sends m x
carrier_found r p low high sends m None h = absent (λ l a b. not_T_of (h l a (omega arith)))
carrier_found r p low high sends m (Some k) (a, b, e, w) = present k a (omega arith) (T_of e)

pub carrier_near : {r : Run} {p low high : ℕ} {sends : Bool} {m : Message} {k : ℕ} → 1 ≤ low → Carrier r p low high sends m (Some k) → Carrier r p 1 high sends m (Some k)
carrier_near h (present k a c t) = present k (omega arith) c t

pub carrier_at : (r : Run) (sends : Bool) (m : Message) (k : Option ℕ) {p p' high high' : ℕ} → p ≡ p' → high ≡ high' → Carrier r p 1 high sends m k → Carrier r p' 1 high' sends m k
carrier_at r sends m k e g w = rw (← e, ← g) w

-- ---- a state

-- the marks behind a state: it carries what they are above, or nothing
module _ (r : Run) (sends : Bool) (p k : ℕ) (marks marks' : List ℕ) (up : Higher marks marks') (w : Rising r sends p k marks) where
  rising_next : ((m : Message) → which sends (into r p k) ≡ some m → m.number < get_or marks' (mark_at sends m.channel) 0) → Rising r sends p (k + 1) marks'
  unfolding Rising
  rising_next own l m h = below_next (λ l. which sends (into r p l) ≡ some m → m.number < get_or marks' (mark_at sends m.channel) 0) h
      (own m) (λ g e. omega (arith, w l m g e, up (mark_at sends m.channel)))

  rising_quiet : which sends (into r p k) ≡ none → Rising r sends p (k + 1) marks'
  rising_quiet z = rising_next (λ m h. let e = sym h ∙ z in never (cc (e)))

  rising_own : (m : Message) → which sends (into r p k) ≡ some m → m.number < get_or marks' (mark_at sends m.channel) 0 → Rising r sends p (k + 1) marks'
  rising_own m e own = rising_next (λ n h. let same : m ≡ n = cc (e, h) in rw (← same) own)

-- who sends, or receives, nothing repeats nothing
quiet_new : (o : Maybe Message) {q : Maybe Message} → q ≡ none → ¬ T (same_message o q)
quiet_new none e t = t
quiet_new (some m) e t = rw e at t

module _ {s ix marks hints : List ℕ} {p k : ℕ} (w : PairingAt s ix marks hints p k) where
  abbrev r : Run
  r = run_in s

  -- an event that sends and receives nothing is clear
  pub settled_quiet : (e : Event) → into r p k ≡ e → sending e ≡ none → receiving e ≡ none → Settled r p k ix ix marks true
  unfolding which
  settled_quiet e g a b = record {
    faulty = λ z. never (cc);
    clear = λ z. record {
      new_send = λ l h. quiet_new (sending (into r p l)) (ap sending g ∙ a);
      new_receive = λ l h. quiet_new (receiving (into r p l)) (ap receiving g ∙ b);
      has_send = λ m h. absurd (no_receive e g b m h);
    };
    entered = λ z. inl (refl, no_receive e g b);
    sent = rising_quiet r true p k marks marks (λ i. omega arith) w.sent (ap sending g ∙ a);
    received = rising_quiet r false p k marks marks (λ i. omega arith) w.received (ap receiving g ∙ b);
  }

  -- a send is faulty exactly if it repeats one
  pub settled_send : (m : Message) → into r p k ≡ Send m → (marks' : List ℕ) (t : Bool) → Repeats r p k true m marks marks' t → Settled r p k ix ix marks' (not t)
  unfolding which carries
  settled_send m g marks' t v = record {
    faulty = λ z. let (l, a, b, u) = v.earlier (not-false t z) in again true l a b (rw g u);
    clear = λ z. record {
      new_send = λ l h u. v.new (not-true t z) l h (rw g at u);
      new_receive = λ l h. quiet_new (receiving (into r p l)) (ap receiving g);
      has_send = λ n h. absurd (no_receive (Send m) g refl n h);
    };
    entered = λ z. inl (refl, no_receive (Send m) g refl);
    sent = rising_own r true p k marks marks' v.higher w.sent m (ap sending g) v.own;
    received = rising_quiet r false p k marks marks' v.higher w.received (ap receiving g);
  }

  module _ (m : Message) (g : into r p k ≡ Receive m) (marks' : List ℕ) where
    sent_behind : {t : Bool} → Repeats r p k false m marks marks' t → Rising r true p (k + 1) marks'
    unfolding which
    sent_behind v = rising_quiet r true p k marks marks' v.higher w.sent (ap sending g)

    received_behind : {t : Bool} → Repeats r p k false m marks marks' t → Rising r false p (k + 1) marks'
    unfolding which
    received_behind v = rising_own r false p k marks marks' v.higher w.received m (ap receiving g) v.own

    -- a receive that repeats one is faulty
    pub settled_repeat : Repeats r p k false m marks marks' true → Settled r p k ix ix marks' false
    unfolding which carries
    settled_repeat v = record {
      faulty = λ z. let (l, a, b, u) = v.earlier refl in again false l a b (rw g u);
      clear = λ z. never (cc);
      entered = λ z. never (cc);
      sent = sent_behind v;
      received = received_behind v;
    }

    -- else it is faulty exactly if it has no send
    pub settled_receive : (ix' : List ℕ) (t : Bool) → Repeats r p k false m marks marks' false → Received r p k ix ix' t → Settled r p k ix ix' marks' t
    unfolding which carries
    settled_receive ix' t v o = record {
      faulty = λ z. alone m g (o.alone z);
      clear = λ z. record {
        new_send = λ l h. quiet_new (sending (into r p l)) (ap sending g);
        new_receive = λ l h u. v.new refl l h (rw g at u);
        has_send = λ n h. let e = o.entered z in (e.process, e.state, e.pair);
      };
      entered = λ z. inr (o.entered z);
      sent = sent_behind v;
      received = received_behind v;
    }

-- ---- a receive and its send

module _ (r : Run) (sides : Sides r) (p k : ℕ) (m : Message) (g : into r p k ≡ Receive m) where
  -- its channel's sender is the only process that may have sent it
  pub pair_from : {i l : ℕ} → Paired r i l p k → ((channel r m.channel).from ≡ i) × T (carries true (into r i l) m)
  unfolding carries which
  pair_from {i} {l} w =
      let v = view w in
      let same : v.received ≡ m = cc (v.receive, g) in (
        ap (λ n. (channel r n.channel).from) (sym same) ∙ from_side r sides v,
        parts_same v.sent m (ap sending v.send) refl (v.on ∙ ap (λ n. n.channel) same) (v.number ∙ ap (λ n. n.number) same),
      )

  pub carries_pair : (i l : ℕ) → T (carries true (into r i l) m) → Paired r i l p k
  unfolding carries which paired
  carries_pair i l t = record { same = rw g t }

  -- what the search over the sender's states tells
  pub received_none : (ix : List ℕ) → SendIs r m None → Received r p k ix ix false
  received_none ix (absent w) = record {
    alone = λ y i l q.
        let (a, b) = pair_from q in
        let s = sent_there (view q).send in
        w l s.counted (omega (arith, s.there, ap (count r) a)) (rw a b);
    entered = λ y. never (cc);
  }

  pub received_one : (ix : List ℕ) (x : ℕ) → SendIs r m (Some x)
      → Received r p k ix (set (set ix (partner_at (channel r m.channel).from x) k) (partner_at p k) x) true
  received_one ix x (present _ a c t) = record {
    alone = λ y. never (cc);
    entered = λ y. record { process = (channel r m.channel).from; state = x; pair = carries_pair _ x t; after = refl };
  }

  pub send_there : {x : ℕ} → SendIs r m (Some x) → IsState r (channel r m.channel).from x
  send_there (present _ a c t) = record { counted = a; there = c }
