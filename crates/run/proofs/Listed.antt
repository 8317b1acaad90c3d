-- What the pass leaves of an accepted run, in the words of the model: each state by its process and number.
use mathlib.Core.Path.{◌≡◌, sym, ap, ◌∙◌, subst}
use mathlib.Core.Logic.{⊎_elim}
use mathlib.Core.List.{List}
use Prim.Native.Nat.{ℕ, zero, suc, ◌+◌, ◌-◌, ◌≤◌, ◌<◌}
use native.Mathlib.Nat.{mul-le-mul_left, mul-suc}
use native.Mathlib.Omega.{arith}
use lib.ListN.{length, get_or}
use lib.Seq.{get_or-take}
use Rattle.model.specs.Run.{processes, count, state, into, channel, IsState}
use Rattle.model.specs.Known.{Sides}
use Rattle.model.proofs.Lists.{le_or_lt}
use Rattle.record.specs.Layout.{state_length}
use Rattle.std.proofs.Common.{Ok}
use Rattle.record.specs.Record.{head_of, state_fields_at}
use Rattle.states.specs.States.{event_of, state_at, channel_at, places_of}
use Rattle.states.specs.Inner.{HasChannel}
use Rattle.states.proofs.Laws.{FieldsOk}
use Rattle.run.specs.Read.{read_of}
use Rattle.run.specs.Said.{states_of, run_in, place_of}
use Rattle.run.specs.Index.{place_at, HasSlot, Listed}
use Rattle.run.proofs.Indexing.{counts_at}
use Rattle.run.proofs.Places.{stands, places_grow}
use Rattle.run.proofs.Accepted.{Accepted, run_accepted}
use Rattle.run.proofs.Sides.{run_processes, run_channels, run_channel, run_count, run_process, run_state, state_judged, run_sides}

module _ (s : List ℕ) (read : read_of s ≡ Ok (states_of s)) where
  abbrev qs : List ℕ
  qs = states_of s

  pub ok : Accepted s (states_of s)
  ok = (run_accepted s (states_of s) read).1

  pub short : length s ≤ 65535
  short = (run_accepted s (states_of s) read).0

  pub sides : Sides (run_in s)
  unfolding run_in
  sides = run_sides s qs ok

  pub processes_are : processes (run_in s) ≡ (head_of s).processes
  unfolding run_in
  processes_are = run_processes s qs

  pub channels_are : length (run_in s).channels ≡ (head_of s).channels
  unfolding run_in
  channels_are = run_channels s qs

  pub channel_is : (c : ℕ) → c < (head_of s).channels → channel (run_in s) c ≡ channel_at s c
  unfolding run_in
  channel_is c h = run_channel s qs c h

  -- a channel of the run has its record, which says its ends
  pub channel_record : (c : ℕ) → c < length (run_in s).channels → HasChannel s c
  channel_record c h = omega (arith, channels_are, ok.whole)

  pub channel_few : (c : ℕ) → c < length (run_in s).channels → c < 16
  channel_few c h = omega (arith, channels_are, ok.head.channels)

  pub channel_same : (c : ℕ) → c < length (run_in s).channels → channel_at s c ≡ channel (run_in s) c
  channel_same c h = sym (channel_is c (omega (arith, channels_are)))

  pub process_of : {p k : ℕ} → IsState (run_in s) p k → p < (head_of s).processes
  unfolding run_in
  process_of w = run_process s qs w

  pub count-is : (p : ℕ) → p < (head_of s).processes → count (run_in s) p ≡ length (places_of s qs p)
  unfolding run_in
  count-is p h = run_count s qs p h

  place_listed : (p k : ℕ) → get_or (places_of s qs p) k 0 ≡ place_of s p (suc k)
  place_listed p k = ap (λ n. get_or (places_of s qs p) n 0) (omega arith)

  -- a state's record is whole, and says the state
  pub place_whole : (p k : ℕ) → IsState (run_in s) p k → place_of s p k + state_length (head_of s) ≤ length s
  unfolding run_in
  place_whole p zero w = absurd (omega (arith, w.counted))
  place_whole p (suc k) w =
      let j = state_judged s qs ok p k w in
      let st = j.stand in
      subst (λ q. q + state_length (head_of s) ≤ length s) (st.place ∙ place_listed p k) (ok.states j.record_number st.there).whole

  pub state_is : (p k : ℕ) → IsState (run_in s) p k → state (run_in s) p k ≡ state_at s (place_of s p k)
  unfolding run_in
  state_is p zero w = absurd (omega (arith, w.counted))
  state_is p (suc k) w =
      let h = process_of w in
      run_state s qs p k h (omega (arith, w.there, count-is p h)) ∙ ap (state_at s) (place_listed p k)

  pub event_is : (p k : ℕ) → IsState (run_in s) p k → into (run_in s) p k ≡ event_of (state_fields_at s (place_of s p k))
  unfolding run_in
  event_is p zero w = absurd (omega (arith, w.counted))
  event_is p (suc k) w = (state_judged s qs ok p k w).event ∙ ap (λ q. event_of (state_fields_at s q)) (place_listed p k)

  pub process_is : (p k : ℕ) → IsState (run_in s) p k → (state_fields_at s (place_of s p k)).process ≡ p
  unfolding run_in
  process_is p zero w = absurd (omega (arith, w.counted))
  process_is p (suc k) w = ap (λ q. (state_fields_at s q).process) (sym (place_listed p k)) ∙ (state_judged s qs ok p k w).process

  -- its event is known, and what the event doesn't use is zero
  pub fields_are : (p k : ℕ) → IsState (run_in s) p k → FieldsOk (state_fields_at s (place_of s p k))
  unfolding run_in
  fields_are p zero w = absurd (omega (arith, w.counted))
  fields_are p (suc k) w = subst (λ q. FieldsOk (state_fields_at s q)) (place_listed p k) (state_judged s qs ok p k w).right.fields

  -- within a process, file order is the order of its states
  rise : (p j j' : ℕ) → j < j' → j' < length (places_of s qs p) → get_or (places_of s qs p) j 0 < get_or (places_of s qs p) j' 0
  rise p j j' h g =
      let (i, a) = stands s qs p j (omega arith) in
      let (i', a') = stands s qs p j' g in
      let earlier : i < i' = ⊎_elim
      (λ x. x)
      (λ x. absurd (omega (arith, a.number, a'.number, places_grow s qs i' i p (omega arith))))
      (le_or_lt (suc i) i') in
      let here = (ok.states i a.there).place in
      let there = (ok.states i' a'.there).place in
      omega (arith, a.place, a'.place, here, there, mul-le-mul_left (state_length (head_of s)) earlier, mul-suc (state_length (head_of s)) i)

  pub place_rises : (p k k' : ℕ) → IsState (run_in s) p k → IsState (run_in s) p k' → k < k' → place_of s p k < place_of s p k'
  place_rises p zero k' w w' h = absurd (omega (arith, w.counted))
  place_rises p (suc k) zero w w' h = absurd (omega arith)
  place_rises p (suc k) (suc k') w w' h =
      let l : k' < length (places_of s qs p) = omega (arith, w'.there, count-is p (process_of w)) in
      omega (arith, place_listed p k, place_listed p k', rise p k k' (omega arith) l)

-- ---- by the index

module _ (s ix : List ℕ) (w : Listed s ix) where
  pub listed_eight : (p : ℕ) → p < (head_of s).processes → p < 8
  listed_eight p h = omega (arith, (ok s w.read).head.few)

  pub listed_few : (p : ℕ) → p < (head_of s).processes → count (run_in s) p ≤ 512
  listed_few p h = omega (arith, w.index.few p (listed_eight p h), count-is s w.read p h)

  pub listed_count : (p : ℕ) → p < (head_of s).processes → get_or ix p 0 ≡ count (run_in s) p
  listed_count p h =
      let l = listed_eight p h in
      sym (get_or-take 8 ix p 0 l) ∙ ap (λ l. get_or l p 0) w.index.counted ∙ counts_at s (states_of s) p l ∙ sym (count-is s w.read p h)

  -- a state has entries
  pub listed_slot : {p k : ℕ} → IsState (run_in s) p k → HasSlot p k
  listed_slot t =
      let h = process_of s w.read t in
      record { process = listed_eight _ h; counted = t.counted; few = omega (arith, t.there, listed_few _ h) }

  pub listed_at : (p k : ℕ) → IsState (run_in s) p k → get_or ix (place_at p k) 0 ≡ place_of s p k
  listed_at p k t =
      let h = process_of s w.read t in
      w.index.placed p (k - 1) (listed_eight p h) (omega (arith, t.there, t.counted, count-is s w.read p h))

  -- the record at a state's place is whole, and says the event
  pub listed_whole : (p k : ℕ) → IsState (run_in s) p k → get_or ix (place_at p k) 0 + state_length (head_of s) ≤ length s
  listed_whole p k t = rw (listed_at p k t) (place_whole s w.read p k t)

  pub listed_state : (p k : ℕ) → IsState (run_in s) p k → state (run_in s) p k ≡ state_at s (get_or ix (place_at p k) 0)
  listed_state p k t = state_is s w.read p k t ∙ ap (state_at s) (sym (listed_at p k t))

  pub listed_event : (p k : ℕ) → IsState (run_in s) p k → event_of (state_fields_at s (get_or ix (place_at p k) 0)) ≡ into (run_in s) p k
  listed_event p k t = ap (λ q. event_of (state_fields_at s q)) (listed_at p k t) ∙ sym (event_is s w.read p k t)
