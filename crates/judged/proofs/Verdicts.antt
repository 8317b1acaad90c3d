-- What the pairing and the order tell of the whole run: faults are the paper's, and where there is none the run is known, with its partners and its clocks.
use Rattle.std.proofs.Common.{Result, Ok, Err}
use mathlib.Core.Path.{◌≡◌, refl, sym, ap, ◌∙◌, subst}
use mathlib.Core.Logic.{◌⊎◌, inl, inr, ⊎_elim, ◌≢◌}
use mathlib.Core.Bool.{Bool, true, false, cond}
use mathlib.Core.List.{List}
use mathlib.Core.Option.{Option as Maybe, some}
use Prim.Native.Nat.{ℕ, ◌+◌, ◌≤◌, ◌<◌}
use native.Mathlib.Nat.{eq-or-lt_of_le}
use native.Mathlib.Omega.{arith}
use borrow.Author.Tests.{ltb-true, ltb-false}
use lib.Dec.{T, ltb}
use lib.ListN.{length, get_or}
use Rattle.std.specs.Prelude.{Option, Some, None}
use Rattle.std.proofs.lemmas.Option.{IfSome_then}
use Rattle.model.specs.Cut.{AfterCircle}
use Rattle.model.specs.declared.Message.{Message}
use Rattle.model.specs.declared.Event.{Event}
use Rattle.model.specs.declared.Event.TheVariants.{Send}
use Rattle.model.specs.Run.{Run, count, channel, into, IsState, sending, receiving, same_message, Paired}
use Rattle.model.specs.Known.{Known}
use Rattle.model.specs.Clocks.{Clocks}
use Rattle.model.proofs.Numbers.{never}
use Rattle.model.proofs.Lists.{le_or_lt}
use Rattle.model.proofs.Pairing.{view, to_side, one_send, one_receive, sent_there, received_there}
use Rattle.model.proofs.Messages.{sending_send, receiving_receive}
use Rattle.record.specs.Record.{head_of}
use Rattle.record.specs.declared.Head.{Head}
use Rattle.record.specs.declared.Refusal.{Refusal}
use Rattle.record.specs.Pass.{Read}
use Rattle.run.specs.Read.{read_of}
use Rattle.record.specs.Pass.{places_in}
use Rattle.run.specs.Said.{states_of, run_in, place_of}
use Rattle.run.specs.Index.{partner_at, Partnered, Listed, Fresh, index_size, partners_part}
use Rattle.run.specs.Inner.{reading, RunPassed}
use Rattle.run.proofs.Listed.{sides, process_of, place_rises, listed_count}
use Rattle.judged.specs.Judged.{Unpaired}
use Rattle.judged.specs.Judged.Unpaired.{second_send, second_receive, no_send}
use Rattle.judged.specs.Inner.{next_of, Undone, PairingJudged, CircleJudged}
use Rattle.judged.specs.Firsts.{FirstOf, FirstsTo, Earliest}
use Rattle.judged.specs.Order.{Ordered}
use Rattle.judged.specs.Pairing.{which, Clear, Faulty, Backed, Met, ProcessesPaired}
use Rattle.judged.specs.Pairing.Faulty.{again, alone}
use Rattle.judged.proofs.Pairs.{not_both, same_parts, parts_same}
use Rattle.judged.proofs.Firsts.{first_of_here, first_judged}

module _ (s : List ℕ) (read : read_of s ≡ Ok (states_of s)) where
  abbrev r : Run
  r = run_in s

  ahead : {p k l : ℕ} → IsState r p k → 1 ≤ l → l < k → IsState r p l
  ahead t a b = record { counted = a; there = omega (arith, t.there) }

  -- ---- a fault is the paper's

  pub faulty_unpaired : (p k : ℕ) → IsState r p k → Faulty r p k → Unpaired s p k
  unfolding which
  faulty_unpaired p k t (again true l a b u) = let t' = ahead t a b in second_send p l t' (place_rises s read p l k t' t b) u
  faulty_unpaired p k t (again false l a b u) = let t' = ahead t a b in second_receive p l t' (place_rises s read p l k t' t b) u
  faulty_unpaired p k t (alone m e w) = no_send m e w

  -- an earlier place of the same process is an earlier state
  earlier : (p j k : ℕ) → IsState r p j → IsState r p k → place_of s p j < place_of s p k → j < k
  earlier p j k t t' h = ⊎_elim
      (λ g. absurd (⊎_elim (λ e. omega (arith, ap (place_of s p) e)) (λ l. omega (arith, place_rises s read p k j t' t l)) (eq-or-lt_of_le g)))
      (λ g. g)
      (le_or_lt k j)

  -- a message at an earlier place is by the same process: f is what an event sends, or receives, and end the channel's end that may
  same_process : (f : Event → Maybe Message) (end : ℕ → ℕ) → ((i k : ℕ) (m : Message) → f (into r i k) ≡ some m → end m.channel ≡ i)
      → (i j p k : ℕ) → IsState r i j → IsState r p k → place_of s i j < place_of s p k → T (same_message (f (into r i j)) (f (into r p k)))
      → (j < k) × T (same_message (f (into r p j)) (f (into r p k)))
  same_process f end by i j p k t' t h u =
      let (m, n, a, b, x, y) = same_parts (f (into r i j)) (f (into r p k)) u in
      let same : i ≡ p = sym (by i j m a) ∙ ap end x ∙ by p k n b in
      (earlier p j k (rw same at t') t (rw same at h), rw same at u)

  pub clear_paired : (p k : ℕ) → IsState r p k → Clear r p k → ¬ Unpaired s p k
  clear_paired p k t w (second_send i j t' h u) =
      let (g, v) = same_process sending (λ c. (channel r c).from) (λ i k m a. ((sides s read).sender i k m (sending_send (into r i k) m a)).1) i j p k t' t h u in
      w.new_send j g v
  clear_paired p k t w (second_receive i j t' h u) =
      let (g, v) = same_process receiving (λ c. (channel r c).to) (λ i k m a. ((sides s read).receiver i k m (receiving_receive (into r i k) m a)).1) i j p k t' t h u in
      w.new_receive j g v
  clear_paired p k t w (no_send m e v) = let (i, l, q) = w.has_send m e in v i l q

  -- ---- no fault: the run is known, and the partners are right

  -- where no earlier state has what a state sends, or receives, one state has it
  only : (f : Event → Maybe Message) (i : ℕ) → ((k : ℕ) → IsState r i k → (l : ℕ) → l < k → ¬ T (same_message (f (into r i l)) (f (into r i k))))
      → (k k' : ℕ) (m m' : Message) → IsState r i k → IsState r i k' → f (into r i k) ≡ some m → f (into r i k') ≡ some m'
      → m.channel ≡ m'.channel → m.number ≡ m'.number → k ≡ k'
  only f i new k k' m m' t t' e e' x y = ⊎_elim
      (λ h. ⊎_elim (λ z. z) (λ z. absurd (new k' t' k z (parts_same m m' e e' x y))) (eq-or-lt_of_le h))
      (λ h. absurd (new k t k' h (parts_same m' m e' e (sym x) (sym y))))
      (le_or_lt k k')

  pub clear_known : ((p k : ℕ) → IsState r p k → Clear r p k) → Known r
  clear_known clear = record {
    sides = sides s read;
    once = λ i k k' m m' e e'. only sending i (λ k t. (clear i k t).new_send) k k' m m' (sent_there e) (sent_there e') (ap sending e) (ap sending e');
    taken = λ i k k' m m' e e'. only receiving i (λ k t. (clear i k t).new_receive) k k' m m' (received_there e) (received_there e') (ap receiving e) (ap receiving e');
    origin = λ j l m e. (clear j l (received_there e)).has_send m e;
  }

  pub met_partnered : Known r → (ix : List ℕ) → Backed r ix → ((p l : ℕ) → IsState r p l → Met r ix p l) → Partnered r ix
  unfolding Backed Met
  met_partnered known ix b met = record { sent = sent; received = received; backed = backed }
    where
      -- a receive is entered with its send, and the send has an entry
      entered : (i k j l : ℕ) → Paired r i k j l → (get_or ix (partner_at j l) 0 ≡ k) × (get_or ix (partner_at i k) 0 ≢ 0)
      entered i k j l q =
          let v = view q in
          let (i', k', q', a, z) = met j l (received_there v.receive) v.received v.receive in
          let (x, y) = one_send r known q' q in
          (a ∙ y, rw (x, y) at z)

      received : (i k j l : ℕ) → Paired r i k j l → get_or ix (partner_at j l) 0 ≡ k
      received i k j l q = (entered i k j l q).0

      -- an entry of a send that isn't 0 is where it is received
      sent : (i k j l : ℕ) → Paired r i k j l → get_or ix (partner_at i k) 0 ≡ l
      sent i k j l q = ⊎_elim (λ e. absurd ((entered i k j l q).1 e)) (λ w. ⊎_elim
          (λ (o : (j' : ℕ) × Paired r i k j' (get_or ix (partner_at i k) 0)). (one_receive r known o.1 q).1)
          (λ (o : (j' : ℕ) × Paired r j' (get_or ix (partner_at i k) 0) i k). absurd (not_both (view q).send (view o.1).receive))
          w) (b i k (sent_there (view q).send))

      receiver : (i k j l : ℕ) (m : Message) → into r i k ≡ Send m → Paired r i k j l → j ≡ (channel r m.channel).to
      receiver i k j l m e q =
          let v = view q in
          let same : v.sent ≡ m = cc (v.send, e) in
          sym (to_side r (sides s read) v) ∙ ap (λ c. (channel r c).to) (sym v.on ∙ ap (λ n. n.channel) same)

      backed : (i k : ℕ) (m : Message) → into r i k ≡ Send m → (get_or ix (partner_at i k) 0 ≡ 0) ⊎ Paired r i k (channel r m.channel).to (get_or ix (partner_at i k) 0)
      backed i k m e = ⊎_elim (λ z. inl z) (λ w. ⊎_elim
          (λ (o : (j : ℕ) × Paired r i k j (get_or ix (partner_at i k) 0)). inr (subst (λ j. Paired r i k j (get_or ix (partner_at i k) 0)) (receiver i k o.0 _ m e o.1) o.1))
          (λ (o : (j : ℕ) × Paired r j (get_or ix (partner_at i k) 0) i k). absurd (not_both e (view o.1).receive))
          w) (b i k (sent_there e))

  -- ---- the first faults of all processes

  module _ (n : ℕ) (bad : List (Option ℕ)) (ix : List ℕ) (all : n ≡ (head_of s).processes) (w : ProcessesPaired r n bad ix) where
    pub pairing_firsts : FirstsTo s (Unpaired s) n bad
    pairing_firsts = record {
      each = λ p h. record {
        there = IfSome_then (get_or bad p None) (w.faulty p h) (λ k f. f.0);
        fault = IfSome_then (get_or bad p None) (w.faulty p h) (λ k f. faulty_unpaired p k f.0 f.1);
        first = λ k t g. clear_paired p k t (w.clear p k h t g);
      };
    }

    pub pairing_judged : (f : Option ℕ) → Earliest s n bad f → PairingJudged s ix f
    pairing_judged = first_judged s read (Unpaired s) n bad all pairing_firsts (λ z.
        let known = clear_known (λ p k t. w.clear p k (inside t) t (rw (z p (inside t)) tt)) in
        (known, met_partnered known ix (w.backed z) (λ p l t. w.met z p l (inside t) t)))
      where
        inside : {p k : ℕ} → IsState r p k → p < n
        inside t = omega (arith, all, process_of s read t)

-- ---- circles: the first state of each process that isn't done

next_cases : (d n : ℕ) → ((d < n) × (next_of d n ≡ Some (d + 1))) ⊎ ((n ≤ d) × (next_of d n ≡ None))
unfolding next_of
next_cases d n = go (ltb d n) refl
  where
    go : (t : Bool) → ltb d n ≡ t → ((d < n) × (cond t (Some (d + 1)) None ≡ Some (d + 1))) ⊎ ((n ≤ d) × (cond t (Some (d + 1)) None ≡ None))
    go true e = inl (ltb-true d n e, refl)
    go false e = inr (ltb-false d n e, refl)

module _ (s ix done : List ℕ) (bad : List (Option ℕ)) (n : ℕ) (w : Listed s ix) (all : n ≡ (head_of s).processes) (o : Ordered s done ix) (u : Undone n ix done bad) where
  bad_is : (p : ℕ) → p < n
      → ((get_or done p 0 < count (run_in s) p) × (get_or bad p None ≡ Some (get_or done p 0 + 1))) ⊎ ((count (run_in s) p ≤ get_or done p 0) × (get_or bad p None ≡ None))
  bad_is p h =
      let e = listed_count s ix w p (omega (arith, all)) in
      ⊎_elim (λ x. inl (omega (arith, x.0, e), u.next p h ∙ x.1)) (λ x. inr (omega (arith, x.0, e), u.next p h ∙ x.1)) (next_cases (get_or done p 0) (get_or ix p 0))

  pub circle_firsts : FirstsTo s (AfterCircle (run_in s)) n bad
  circle_firsts = record { each = λ p h. ⊎_elim (behind p) (λ x. rw x.1 (all_clear p x.0)) (bad_is p h) }
    where
      behind : (p : ℕ) → (get_or done p 0 < count (run_in s) p) × (get_or bad p None ≡ Some (get_or done p 0 + 1)) → FirstOf s (AfterCircle (run_in s)) p (get_or bad p None)
      behind p x =
          let k = get_or done p 0 + 1 in
          let t : IsState (run_in s) p k = record { counted = omega arith; there = omega (arith, x.0) } in
          rw x.1 (first_of_here s (AfterCircle (run_in s)) p k t (o.caught p k t (omega arith)) (λ l t h. o.sound.clear p l t (omega arith)))

      all_clear : (p : ℕ) → count (run_in s) p ≤ get_or done p 0 → FirstOf s (AfterCircle (run_in s)) p None
      all_clear p x = record { there = tt; fault = tt; first = λ k t g. o.sound.clear p k t (omega (arith, t.there)) }

  pub circle_judged : (f : Option ℕ) → Earliest s n bad f → CircleJudged s ix f
  unfolding Clocks
  circle_judged = first_judged s w.read (AfterCircle (run_in s)) n bad all circle_firsts (λ z j l i t. o.sound.clocks j l i t (done_to z t))
    where
      -- where no process has an undone state, all are done
      done_to : ((p : ℕ) → p < n → get_or bad p None ≡ None) → {j l : ℕ} → IsState (run_in s) j l → l ≤ get_or done j 0
      done_to z {j} {l} t =
          let h : j < n = omega (arith, all, process_of s w.read t) in
          ⊎_elim (λ x. let e = sym x.1 ∙ z j h in never (cc (e))) (λ x. omega (arith, t.there, x.0)) (bad_is j h)

-- ---- what the pass gives

pub refused_by_pass : {s ix : List ℕ} {r : Result Head Refusal} (x : Refusal) → RunPassed s (read_of s) r ix → r ≡ Err x → read_of s ≡ Err x
refused_by_pass {s} x w same = go (read_of s) (sym same ∙ w.answer)
  where
    go : (v : Read) → Err x ≡ reading s v → v ≡ Err x
    go (Err y) e = cc
    go (Ok qs) e = never (cc)

pub listed_by_pass : {s ix : List ℕ} {r : Result Head Refusal} (h : Head) → RunPassed s (read_of s) r ix → r ≡ Ok h → length ix ≡ index_size → Listed s ix × Fresh partners_part ix × (h ≡ head_of s)
unfolding states_of
listed_by_pass {s} {ix} h w same long = go (read_of s) refl (sym same ∙ w.answer)
  where
    go : (v : Read) → read_of s ≡ v → Ok h ≡ reading s v → Listed s ix × Fresh partners_part ix × (h ≡ head_of s)
    go (Err y) d e = never (cc)
    go (Ok qs) d e =
        let states : read_of s ≡ Ok (states_of s) = d ∙ ap Ok (sym (ap places_in d)) in
        (record { read = states; index = w.index (states_of s) states; long = long }, w.fresh (states_of s) states, cc)
