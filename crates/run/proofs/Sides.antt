-- The run of an accepted file obeys what the model calls known, apart from pairing.
use mathlib.Core.Path.{◌≡◌, refl, sym, ap, ◌∙◌, subst}
use mathlib.Core.Logic.{◌↔◌}
use mathlib.Core.Bool.{Bool, true, false, cond}
use mathlib.Core.List.{List, [], map}
use Prim.Native.Nat.{ℕ, zero, suc, ◌<◌}
use native.Mathlib.Omega.{arith}
use borrow.Author.Tests.{eqb-true, eqb-false}
use lib.Dec.{eqb}
use lib.ListN.{length, get_or, take, length-map}
use Rattle.model.proofs.Numbers.{never}
use Rattle.model.specs.declared.Message.{Message}
use Rattle.model.specs.declared.Event.{Event}
use Rattle.model.specs.declared.Event.TheVariants.{Start, Internal, Send, Receive}
use Rattle.model.specs.Run.{no_state, processes, history, count, state, into, channel, IsState}
use Rattle.model.specs.Known.{Sides}
use Rattle.model.proofs.Pairing.{process_there, sent_there, received_there}
use Rattle.record.specs.Record.{head_of, state_fields_at}
use Rattle.record.specs.declared.StateFields.{StateFields}
use Rattle.states.specs.States.{message_of, event_of, state_at, channel_at, places_of, run_of}
use Rattle.states.proofs.Laws.{StateOk}
use Rattle.states.proofs.Tabulate.{tabulate-length, tabulate-at, map_at}
use Rattle.run.proofs.Places.{StandsAt, stands}
use Rattle.run.proofs.Accepted.{Accepted}

-- ---- what the event of a record says of its fields

by_event : (f : StateFields) (P : Event → Type 0) → (f.event ≡ 0 → P Start) → P Internal → (f.event ≡ 2 → P (Send (message_of f)))
    → ((f.event ≡ 0 → ⊥) → (f.event ≡ 1 → ⊥) → (f.event ≡ 2 → ⊥) → P (Receive (message_of f))) → P (event_of f)
unfolding event_of
by_event f P start internal send receive = go (eqb f.event 0) refl (eqb f.event 1) refl (eqb f.event 2) refl
  where
    go : (x : Bool) → eqb f.event 0 ≡ x → (y : Bool) → eqb f.event 1 ≡ y → (z : Bool) → eqb f.event 2 ≡ z
        → P (cond x Start (cond y Internal (cond z (Send (message_of f)) (Receive (message_of f)))))
    go true a y b z d = start (eqb-true _ 0 a)
    go false a true b z d = internal
    go false a false b true d = send (eqb-true _ 2 d)
    go false a false b false d = receive (eqb-false _ 0 a) (eqb-false _ 1 b) (eqb-false _ 2 d)

event_start : (f : StateFields) → event_of f ≡ Start → f.event ≡ 0
event_start f = by_event f (λ x. x ≡ Start → f.event ≡ 0) (λ a e. a) (λ e. never (cc)) (λ a e. never (cc)) (λ a b d e. never (cc))

start_event : (f : StateFields) → f.event ≡ 0 → event_of f ≡ Start
unfolding event_of
start_event f e = simp e

event_send : (f : StateFields) (m : Message) → event_of f ≡ Send m → (f.event ≡ 2) × (m ≡ message_of f)
event_send f m = by_event f (λ x. x ≡ Send m → (f.event ≡ 2) × (m ≡ message_of f))
    (λ a e. never (cc)) (λ e. never (cc)) (λ a e. (a, cc)) (λ a b d e. never (cc))

-- of a record whose event is known
event_receive : (f : StateFields) (m : Message) → f.event < 4 → event_of f ≡ Receive m → (f.event ≡ 3) × (m ≡ message_of f)
event_receive f m l = by_event f (λ x. x ≡ Receive m → (f.event ≡ 3) × (m ≡ message_of f))
    (λ a e. never (cc)) (λ e. never (cc)) (λ a e. never (cc)) (λ a b d e. (omega arith, cc))

module _ (s qs : List ℕ) where
  -- ---- the run's parts

  pub run_processes : processes (run_of s qs) ≡ (head_of s).processes
  unfolding run_of
  run_processes = tabulate-length (head_of s).processes (λ p. map (state_at s) (places_of s qs p))

  pub run_channels : length (run_of s qs).channels ≡ (head_of s).channels
  unfolding run_of
  run_channels = tabulate-length (head_of s).channels (channel_at s)

  pub run_channel : (c : ℕ) → c < (head_of s).channels → channel (run_of s qs) c ≡ channel_at s c
  unfolding run_of
  run_channel c h = tabulate-at (head_of s).channels (channel_at s) c (record { from = 0; to = 0 }) h

  pub run_history : (p : ℕ) → p < (head_of s).processes → history (run_of s qs) p ≡ map (state_at s) (places_of s qs p)
  unfolding run_of
  run_history p h = tabulate-at (head_of s).processes (λ p. map (state_at s) (places_of s qs p)) p [] h

  pub run_count : (p : ℕ) → p < (head_of s).processes → count (run_of s qs) p ≡ length (places_of s qs p)
  run_count p h = ap length (run_history p h) ∙ length-map (places_of s qs p) (state_at s)

  -- the process of a state is one of the head's
  pub run_process : {p k : ℕ} → IsState (run_of s qs) p k → p < (head_of s).processes
  run_process w = omega (arith, process_there w, run_processes)

  -- state k of process p is what stands at its place
  pub run_state : (p k : ℕ) → p < (head_of s).processes → k < length (places_of s qs p) → state (run_of s qs) p (suc k) ≡ state_at s (get_or (places_of s qs p) k 0)
  unfolding state
  run_state p k h g = ap (λ l. get_or l k no_state) (run_history p h) ∙ map_at (state_at s) (places_of s qs p) k 0 no_state g

  -- ---- an accepted run

  module _ (ok : Accepted s qs) where
    -- what is known of state k + 1 of process p: it stands at record i of the file
    pub record StateJudged (p k : ℕ) : Type 0 where
      pub record_number : ℕ
      pub stand : StandsAt s qs p k record_number
      pub event : into (run_of s qs) p (suc k) ≡ event_of (state_fields_at s (get_or (places_of s qs p) k 0))
      pub right : StateOk s k (state_fields_at s (get_or (places_of s qs p) k 0))
      pub process : (state_fields_at s (get_or (places_of s qs p) k 0)).process ≡ p

    pub state_judged : (p k : ℕ) → IsState (run_of s qs) p (suc k) → StateJudged p k
    unfolding into state_at
    state_judged p k w =
        let h = run_process w in
        let l : k < length (places_of s qs p) = omega (arith, w.there, run_count p h) in
        let (i, st) = stands s qs p k l in
        let own : (state_fields_at s (get_or (places_of s qs p) k 0)).process ≡ p = subst (λ q. (state_fields_at s q).process ≡ p) st.place st.process in
        let right = (ok.states i st.there).right in
        record {
          record_number = i;
          stand = st;
          event = ap (λ x. x.event) (run_state p k h l);
          right = subst (λ q. StateOk s k (state_fields_at s q)) st.place (subst (λ n. StateOk s n (state_fields_at s (get_or qs i 0)))
              (ap (λ x. length (places_of s (take i qs) x)) st.process ∙ st.number) right);
          process = own;
        }

  module _ (ok : Accepted s qs) where
    sender : (i k : ℕ) (m : Message) → into (run_of s qs) i k ≡ Send m
        → (m.channel < length (run_of s qs).channels) × ((channel (run_of s qs) m.channel).from ≡ i)
    unfolding message_of
    sender i zero m e = let w : IsState (run_of s qs) i 0 = sent_there e in absurd (omega arith)
    sender i (suc k) m e =
        let j = state_judged ok i k (sent_there e) in
        let (a, b) = event_send _ m (sym j.event ∙ e) in
        let c : m.channel < (head_of s).channels = subst (λ n. n.channel < (head_of s).channels) (sym b) (j.right.names.send a) in
        let end = ap (λ x. x.from) (run_channel m.channel c) ∙ ap (λ n. (channel_at s n.channel).from) b in
        (omega (arith, run_channels), end ∙ j.right.sends a ∙ j.process)

    receiver : (i k : ℕ) (m : Message) → into (run_of s qs) i k ≡ Receive m
        → (m.channel < length (run_of s qs).channels) × ((channel (run_of s qs) m.channel).to ≡ i)
    unfolding message_of
    receiver i zero m e = let w : IsState (run_of s qs) i 0 = received_there e in absurd (omega arith)
    receiver i (suc k) m e =
        let j = state_judged ok i k (received_there e) in
        let (a, b) = event_receive _ m j.right.fields.event (sym j.event ∙ e) in
        let c : m.channel < (head_of s).channels = subst (λ n. n.channel < (head_of s).channels) (sym b) (j.right.names.receive a) in
        let end = ap (λ x. x.to) (run_channel m.channel c) ∙ ap (λ n. (channel_at s n.channel).to) b in
        (omega (arith, run_channels), end ∙ j.right.takes a ∙ j.process)

    starts : (i k : ℕ) → IsState (run_of s qs) i k → (into (run_of s qs) i k ≡ Start) ↔ (k ≡ 1)
    starts i zero w = absurd (omega (arith, w.counted))
    starts i (suc k) w =
        let j = state_judged ok i k w in (
          λ e. ap suc (j.right.start (event_start _ (sym j.event ∙ e))),
          λ e. j.event ∙ start_event _ (j.right.first (omega arith)),
        )

    pub run_sides : Sides (run_of s qs)
    run_sides = record {
      peopled = λ i p. let h : i < (head_of s).processes = omega (arith, run_processes) in omega (arith, run_count i h, ok.peopled i h);
      starts = starts;
      ends = λ c p.
          let h : c < (head_of s).channels = omega (arith, run_channels) in
          let k = ok.channels c h in
          rw (run_channel c h) (omega (arith, k.from, run_processes), omega (arith, k.to, run_processes), k.apart);
      sender = sender;
      receiver = receiver;
    }
