-- The table of partners: entering a receive with its send, state by state and process by process. Letters as in specs/Pairing.
use mathlib.Core.Path.{◌≡◌, refl, sym, ap, ◌∙◌}
use mathlib.Core.Logic.{inl, inr, ⊎_elim, ◌≢◌}
use mathlib.Core.Bool.{Bool, true, false}
use mathlib.Core.List.{List}
use Prim.Native.Nat.{ℕ, zero, suc, ◌+◌, ◌<◌}
use native.Mathlib.Decide.{ℕ_discrete}
use native.Mathlib.Omega.{arith}
use lib.ListN.{length, get_or, set, length-set}
use lib.Seq.{get_or-set_same, get_or-set_other}
use Rattle.std.specs.Prelude.{Option, Some, None}
use Rattle.std.specs.Option.{IfSome}
use Rattle.model.proofs.Numbers.{never, below_next}
use Rattle.model.specs.declared.Message.{Message}
use Rattle.model.specs.declared.Event.TheVariants.{Receive}
use Rattle.model.specs.Run.{Run, state, into, count, IsState}
use Rattle.model.proofs.Pairing.{view, sent_there, received_there}
use Rattle.run.specs.Index.{partner_at, Fresh, index_size, partners_part}
use Rattle.judged.proofs.Firsts.{each_next}
use Rattle.judged.proofs.Processes.{Small, slot_one}
use Rattle.judged.proofs.Pairs.{not_both}
use Rattle.judged.specs.Pairing.{which, Rising, Clear, Faulty, Backed, Met, Entered, Settled, ProcessPaired, ProcessesPaired}

-- a process, up to a state: clear, and what it receives entered
pub record Partway (r : Run) (p k : ℕ) (ix ix' : List ℕ) : Type 0 where
  pub clear : (l : ℕ) → IsState r p l → l < k → Clear r p l
  pub backed : Backed r ix → Backed r ix'
  pub met : (l : ℕ) → IsState r p l → l < k → Met r ix' p l
  pub kept : (j l : ℕ) → IsState r j l → j ≢ p → Met r ix j l → Met r ix' j l

module _ (r : Run) (small : Small r) where
  entry_inside : {i k : ℕ} (ix : List ℕ) → length ix ≡ index_size → IsState r i k → partner_at i k < length ix
  entry_inside {i} {k} ix long w = omega (arith, small i k w, w.counted, long)

  entry_one : {i k j l : ℕ} → IsState r i k → IsState r j l → partner_at i k ≡ partner_at j l → (i ≡ j) × (k ≡ l)
  entry_one w v e = slot_one r small w v (omega arith)

  module _ (p k : ℕ) (ix ix' : List ℕ) (long : length ix ≡ index_size) (e : Entered r p k ix ix') where
    send : IsState r e.process e.state
    send = sent_there (view e.pair).send

    receive : IsState r p k
    receive = received_there (view e.pair).receive

    abbrev send_entry : ℕ
    send_entry = partner_at e.process e.state

    abbrev receive_entry : ℕ
    receive_entry = partner_at p k

    -- a send is no receive
    apart : send_entry ≢ receive_entry
    apart z =
        let (a, b) = entry_one send receive z in
        let v = view e.pair in
        not_both v.send (ap (λ i. into r i e.state) a ∙ ap (into r p) b ∙ v.receive)

    -- the index, with the entry of the send
    abbrev mid : List ℕ
    mid = set ix send_entry k

    -- what the entries say behind it
    at_receive : get_or ix' receive_entry 0 ≡ e.state
    at_receive = ap (λ l. get_or l receive_entry 0) e.after ∙ get_or-set_same mid receive_entry e.state 0 (entry_inside mid (length-set ix send_entry k ∙ long) receive)

    at_send : get_or ix' send_entry 0 ≡ k
    at_send =
        ap (λ l. get_or l send_entry 0) e.after
        ∙ get_or-set_other mid receive_entry send_entry e.state 0 apart
        ∙ get_or-set_same ix send_entry k 0 (entry_inside ix long send)

    elsewhere : (x : ℕ) → x ≢ receive_entry → x ≢ send_entry → get_or ix' x 0 ≡ get_or ix x 0
    elsewhere x d f = ap (λ l. get_or l x 0) e.after ∙ get_or-set_other mid receive_entry x e.state 0 d ∙ get_or-set_other ix send_entry x k 0 f

    -- an entry that isn't 0 stays so
    stays : (x : ℕ) → get_or ix x 0 ≢ 0 → get_or ix' x 0 ≢ 0
    stays x n z = elim (ℕ_discrete x receive_entry) [
      | yes a ↦ absurd (omega (arith, send.counted, at_receive, ap (λ y. get_or ix' y 0) a))
      | no d ↦ elim (ℕ_discrete x send_entry) [
        | yes a ↦ absurd (omega (arith, receive.counted, at_send, ap (λ y. get_or ix' y 0) a))
        | no f ↦ n (sym (elsewhere x d f) ∙ z)
      ]
    ]

    pub entered_backed : Backed r ix → Backed r ix'
    unfolding Backed
    entered_backed w i l s = elim (ℕ_discrete (partner_at i l) receive_entry) [
      | yes a ↦ let (x, y) = entry_one s receive a in inr (inr (e.process, rw (x, y, at_receive) e.pair))
      | no d ↦ elim (ℕ_discrete (partner_at i l) send_entry) [
        | yes a ↦ let (x, y) = entry_one s send a in inr (inl (p, rw (x, y, at_send) e.pair))
        | no f ↦ rw (elsewhere (partner_at i l) d f) (w i l s)
      ]
    ]

    pub entered_met : Met r ix' p k
    unfolding Met
    entered_met m g = (e.process, e.state, e.pair, at_receive, λ z. absurd (omega (arith, receive.counted, at_send)))

    pub entered_keeps : (j l : ℕ) → IsState r j l → partner_at j l ≢ partner_at p k → Met r ix j l → Met r ix' j l
    unfolding Met
    entered_keeps j l s d w m g =
        let (i, n, q, a, b) = w m g in
        (i, n, q, elsewhere (partner_at j l) d (λ z. no-send (entry_one s send z)) ∙ a, stays (partner_at i n) b)
      where
        no-send : (j ≡ e.process) × (l ≡ e.state) → ⊥
        no-send x = not_both (ap (λ i. into r i l) x.0 ∙ ap (into r e.process) x.1 ∙ (view e.pair).send) g

  pub partway_start : (p : ℕ) (ix : List ℕ) → Partway r p 1 ix ix
  partway_start p ix = record {
    clear = λ l s h. absurd (omega (arith, s.counted));
    backed = λ w. w;
    met = λ l s h. absurd (omega (arith, s.counted));
    kept = λ j l s d w. w;
  }

  pub partway_next : (p k : ℕ) (ix mid ix' marks' : List ℕ) → length mid ≡ index_size → IsState r p k → Partway r p k ix mid → Settled r p k mid ix' marks' true
      → Partway r p (k + 1) ix ix'
  unfolding Met
  partway_next p k ix mid ix' marks' long here w v = ⊎_elim quiet enter (v.entered refl)
    where
      clear : (l : ℕ) → IsState r p l → l < k + 1 → Clear r p l
      clear l s h = below_next (Clear r p) h (v.clear refl) (w.clear l s)

      quiet : (ix' ≡ mid) × ((m : Message) → into r p k ≢ Receive m) → Partway r p (k + 1) ix ix'
      quiet (e, n) = record {
        clear = clear;
        backed = λ b. rw e (w.backed b);
        met = λ l s h. rw e (below_next (Met r mid p) h (λ m g. absurd (n m g)) (w.met l s));
        kept = λ j l s d a. rw e (w.kept j l s d a);
      }

      enter : Entered r p k mid ix' → Partway r p (k + 1) ix ix'
      enter e = record {
        clear = clear;
        backed = λ b. entered_backed p k mid ix' long e (w.backed b);
        met = λ l s h. below_next (Met r ix' p) h (entered_met p k mid ix' long e)
            (λ g. entered_keeps p k mid ix' long e p l s (λ z. absurd (omega (arith, (entry_one s here z).1))) (w.met l s g));
        kept = λ j l s d a. entered_keeps p k mid ix' long e j l s (λ z. d (entry_one s here z).0) (w.kept j l s d a);
      }

  pub process_fault : (p k : ℕ) (ix mid ix' marks' : List ℕ) → IsState r p k → Partway r p k ix mid → Settled r p k mid ix' marks' false → ProcessPaired r p ix ix' (Some k)
  process_fault p k ix mid ix' marks' s w v = record {
    faulty = (s, v.faulty refl);
    clear = w.clear;
    backed = λ z. never (cc);
    met = λ z. never (cc);
    kept = λ z. never (cc);
  }

  pub process_end : (p k : ℕ) (ix ix' : List ℕ) → count r p < k → Partway r p k ix ix' → ProcessPaired r p ix ix' None
  process_end p k ix ix' h w = record {
    faulty = tt;
    clear = λ l t g. w.clear l t (omega (arith, t.there));
    backed = λ z. w.backed;
    met = λ z l t. w.met l t (omega (arith, t.there));
    kept = λ z. w.kept;
  }

-- nothing is ahead of the first state
pub rising_start : (r : Run) (sends : Bool) (p : ℕ) (marks : List ℕ) → Rising r sends p 1 marks
unfolding Rising which into state
rising_start r true p marks zero m h e = never (cc)
rising_start r false p marks zero m h e = never (cc)
rising_start r sends p marks (suc l) m h e = absurd (omega arith)

-- ---- process by process

pub processes_start : (r : Run) (bad : List (Option ℕ)) (ix : List ℕ) → Fresh partners_part ix → ProcessesPaired r 0 bad ix
unfolding Backed
processes_start r bad ix e = record {
  faulty = λ p h. absurd (omega arith);
  clear = λ p l h. absurd (omega arith);
  backed = λ w i k t. inl (e (partner_at i k) (omega arith));
  met = λ w p l h. absurd (omega arith);
}

pub processes_next : (r : Run) (n : ℕ) (k : Option ℕ) (bad : List (Option ℕ)) (ix ix' : List ℕ) → n < length bad → ProcessesPaired r n bad ix → ProcessPaired r n ix ix' k
    → ProcessesPaired r (n + 1) (set bad n k) ix'
processes_next r n k bad ix ix' inside w v = record {
  faulty = each_next (λ p x. IfSome x (λ k. IsState r p k × Faulty r p k)) n k bad inside v.faulty w.faulty;
  clear = λ p l h. each_next (λ p x. IsState r p l → IfSome x (λ k. l < k) → Clear r p l) n k bad inside (v.clear l) (λ p. w.clear p l) p h;
  backed = λ z. v.backed (last z) (w.backed (others z));
  met = λ z p l h. below_next (λ p. IsState r p l → Met r ix' p l) h
      (v.met (last z) l)
      (λ g t. v.kept (last z) p l t (λ e. absurd (omega arith)) (w.met (others z) p l g t));
}
  where
    last : ((p : ℕ) → p < n + 1 → get_or (set bad n k) p None ≡ None) → k ≡ None
    last z = sym (get_or-set_same bad n k None inside) ∙ z n (omega arith)

    others : ((p : ℕ) → p < n + 1 → get_or (set bad n k) p None ≡ None) → (p : ℕ) → p < n → get_or bad p None ≡ None
    others z p h = sym (get_or-set_other bad n p k None (λ e. absurd (omega arith))) ∙ z p (omega arith)
