-- What a run that the pass accepts is: its head, its channels, where its states stand, and that each of them is right.
use mathlib.Core.Path.{◌≡◌, refl, sym, ap, ◌∙◌, subst}
use mathlib.Core.Logic.{⊎_elim}
use mathlib.Core.Bool.{true, false}
use mathlib.Core.List.{List, [], ◌∷◌, ◌++◌}
use Prim.Native.Nat.{ℕ, suc, ◌+◌, ◌*◌, ◌≤◌, ◌<◌}
use native.Mathlib.Nat.{eq-or-lt_of_le, mul-zero, mul-suc}
use native.Mathlib.Omega.{arith}
use lib.ListN.{length, get_or, take, length-append, get_or-append}
use lib.Seq.{get_or-append_seam, take-append-le, take-append_seam}
use Rattle.model.proofs.Numbers.{never, positive}
use Rattle.model.proofs.Lists.{le_or_lt}
use Rattle.record.specs.Layout.{head_length, channel_length, channel_place, state_length}
use Rattle.record.specs.Inner.{states_place}
use Rattle.std.proofs.Common.{Ok, Err}
use Rattle.record.specs.Record.{length_at, kind_at, length_of, head_of, check_opening, check_step, channel_fields_at, state_fields_at, record_at, step_at}
use Rattle.record.specs.Refusal.{Check, passed, at_fault, and_then}
use Rattle.record.specs.declared.reasons.Reason.TheVariants.{Start}
use Rattle.record.specs.declared.File.TheVariants.{Run}
use Rattle.record.specs.declared.Record.{Record}
use Rattle.record.specs.declared.Record.TheVariants as R
use Rattle.record.proofs.Laws.{refuse_if_ok, opened, opened_whole, step_opened, by_place}
use Rattle.record.proofs.Pass.{accepted_holds}
use Rattle.states.specs.States.{places_of, channel_at}
use Rattle.states.specs.Judge.{check_record}
use Rattle.states.proofs.Laws.{HeadOk, head_ok, channel_ok, StateOk, state_ok, none_lacks, end_there}
use Rattle.run.specs.Read.{counts_of, more, is_end, run_pass, read_of}
use Rattle.run.proofs.Indexing.{counts_at}

-- what a step that gives a record tells
pub record RecordStepped (s : List ℕ) (at next : ℕ) (r : Record) : Type 0 where
  pub opening : check_opening s at ≡ passed
  pub item : r ≡ record_at s at
  pub on : next ≡ at + length_at s at
  pub further : at < next
  pub within : next ≤ length s

pub record_stepped : (s : List ℕ) (at next : ℕ) (r : Record) → step_at s at ≡ Ok (r, next) → RecordStepped s at next r
unfolding step_at
record_stepped s at next r e = go (check_step s at) refl e
  where
    go : (t : Check) → check_step s at ≡ t → and_then {B = Record × ℕ} (at_fault Run at t) (λ u. Ok (record_at s at, at + length_at s at)) ≡ Ok (r, next) → RecordStepped s at next r
    go (Ok u) k e =
        let o = step_opened s at k in
        let f = (opened s at o).frame in
        let same : ◌≡◌ {A = Record × ℕ} (r, next) (record_at s at, at + length_at s at) = cc in
        let n = ap (λ x. x.1) same in
        record { opening = o; item = ap (λ x. x.0) same; on = n; further = omega (arith, f.long); within = omega (arith, f.whole) }
    go (Err why) k e = never (cc)

module _ (s : List ℕ) where
  -- the length of a state's record, and where the first one stands
  abbrev size : ℕ
  size = state_length (head_of s)

  abbrev base : ℕ
  base = states_place (head_of s)

  pub record ChannelOk (h : ℕ) : Type 0 where
    pub from : (channel_at s h).from < (head_of s).processes
    pub to : (channel_at s h).to < (head_of s).processes
    pub apart : (channel_at s h).from ≡ (channel_at s h).to → ⊥

  -- record i of the states stands in its place, and is right beside the records ahead of it
  pub record RecordOk (qs : List ℕ) (i : ℕ) : Type 0 where
    pub place : get_or qs i 0 ≡ base + size * i
    pub whole : get_or qs i 0 + size ≤ length s
    pub right : StateOk s (length (places_of s (take i qs) (state_fields_at s (get_or qs i 0)).process)) (state_fields_at s (get_or qs i 0))

  -- what holds along the pass
  pub record RunAlong (at : ℕ) (qs : List ℕ) : Type 0 where
    pub head : (at ≡ 0 → ⊥) → HeadOk (head_of s)
    pub start : at ≡ 0 → qs ≡ []
    pub past : (at ≡ 0 → ⊥) → (h : ℕ) × (h ≤ (head_of s).channels) × (at ≡ channel_place h + size * length qs) × (h < (head_of s).channels → qs ≡ [])
    pub channels : (h : ℕ) → h < (head_of s).channels → channel_place h + channel_length ≤ at → ChannelOk h
    pub states : (i : ℕ) → i < length qs → RecordOk qs i

  none_long : (qs : List ℕ) → qs ≡ [] → size * length qs ≡ 0
  none_long qs e = rw e (mul-zero size)

  pub along_start : RunAlong 0 []
  along_start = record {
    head = λ n. absurd (n refl);
    start = λ e. refl;
    past = λ n. absurd (n refl);
    channels = λ h l g. absurd (omega arith);
    states = λ i l. absurd (omega arith);
  }

  -- one more state
  record_more : (at : ℕ) (qs : List ℕ) → at ≡ base + size * length qs → at + size ≤ length s
      → StateOk s (length (places_of s qs (state_fields_at s at).process)) (state_fields_at s at)
      → ((i : ℕ) → i < length qs → RecordOk qs i) → (i : ℕ) → i < length (qs ++ (at ∷ [])) → RecordOk (qs ++ (at ∷ [])) i
  record_more at qs e g k w i h = ⊎_elim last before (eq-or-lt_of_le (bound h))
    where
      bound : i < length (qs ++ (at ∷ [])) → i ≤ length qs
      bound h = omega (arith, length-append qs (at ∷ []))

      last : i ≡ length qs → RecordOk (qs ++ (at ∷ [])) i
      last z = subst (RecordOk (qs ++ (at ∷ []))) (sym z) (record {
        place = get_or-append_seam qs at [] 0 ∙ e;
        whole = rw (get_or-append_seam qs at [] 0) g;
        right = rw (get_or-append_seam qs at [] 0, take-append_seam qs (at ∷ [])) k;
      })

      before : i < length qs → RecordOk (qs ++ (at ∷ [])) i
      before h = let o = w i h in let z = get_or-append qs (at ∷ []) 0 i h in record {
        place = z ∙ o.place;
        whole = rw z o.whole;
        right = rw (z, take-append-le i qs (at ∷ []) (omega arith)) o.right;
      }

  module _ (at next : ℕ) (qs : List ℕ) (w : RunAlong at qs) (o : check_opening s at ≡ passed) (on : next ≡ at + length_at s at) where
    -- behind the head
    along_head : at ≡ 0 → length_at s at ≡ head_length → check_record s (counts_of s qs) at (R.Head (head_of s)) ≡ passed → RunAlong next qs
    along_head z e n = let ok = head_ok (head_of s) n in record {
      head = λ d. ok;
      start = λ d. absurd (omega arith);
      past = λ d. (0, omega arith, omega (arith, none_long qs (w.start z)), λ h. w.start z);
      channels = λ h l g. absurd (omega arith);
      states = λ i l. absurd (omega (arith, ap length (w.start z)));
    }

    -- behind a channel
    along_channel : at < base → (at ≡ 0 → ⊥) → length_at s at ≡ channel_length → check_record s (counts_of s qs) at (R.Channel (channel_fields_at s at)) ≡ passed
        → RunAlong next qs
    unfolding channel_fields_at channel_at
    along_channel l z e n =
        let k = channel_ok (head_of s).processes at (channel_fields_at s at) n in
        let (h, a, b, d) = w.past z in
        let early : h < (head_of s).channels = before h a b in
        let none : qs ≡ [] = d early in
        let here : at ≡ channel_place h = omega (arith, b, none_long qs none) in
        let new : ChannelOk h = let k = rw here at k in record { from = k.from; to = k.to; apart = k.apart } in record {
          head = λ d. w.head z;
          start = λ d. none;
          past = λ d. (suc h, early, omega (arith, none_long qs none), λ g. none);
          channels = λ h' g m. ⊎_elim
              (λ x. w.channels h' g x)
              (λ x. let same : h ≡ h' = omega arith in subst ChannelOk same new)
              (le_or_lt (channel_place h' + channel_length) at);
          states = w.states;
        }
      where
        before : (h : ℕ) → h ≤ (head_of s).channels → at ≡ channel_place h + size * length qs → h < (head_of s).channels
        before h a b = ⊎_elim (λ x. absurd (omega arith)) (λ x. x) (eq-or-lt_of_le a)

    -- behind a state
    along_state : base ≤ at → (at ≡ 0 → ⊥) → at + size ≤ length s → length_at s at ≡ size → check_record s (counts_of s qs) at (R.State (state_fields_at s at)) ≡ passed
        → RunAlong next (qs ++ (at ∷ []))
    along_state l z g e n =
        let ok = w.head z in
        let k = state_ok s (counts_of s qs) (state_fields_at s at) n in
        let counted = counts_at s qs (state_fields_at s at).process (omega (arith, k.names.process, ok.few)) in
        let (h, a, b, d) = w.past z in
        let all : h ≡ (head_of s).channels = every h a b d in
        let place = b ∙ ap (λ c. channel_place c + size * length qs) all in
        let more : length (qs ++ (at ∷ [])) ≡ suc (length qs) = length-append qs (at ∷ []) ∙ omega arith in record {
          head = λ d. ok;
          start = λ d. absurd (omega arith);
          past = λ d. (h, a, rw (more, mul-suc size (length qs)) (omega arith), λ x. absurd (omega arith));
          channels = λ h' x m. w.channels h' x (omega arith);
          states = record_more at qs place g (subst (λ c. StateOk s c (state_fields_at s at)) counted k) w.states;
        }
      where
        every : (h : ℕ) → h ≤ (head_of s).channels → at ≡ channel_place h + size * length qs → (h < (head_of s).channels → qs ≡ []) → h ≡ (head_of s).channels
        every h a b d = ⊎_elim (λ x. x) (λ x. absurd (omega (arith, none_long qs (d x)))) (eq-or-lt_of_le a)

    -- behind any record but the end
    along_record : check_record s (counts_of s qs) at (record_at s at) ≡ passed → is_end (record_at s at) ≡ false → RunAlong next (more (record_at s at) at qs)
    unfolding length_of
    along_record = by_place s at (λ r. check_record s (counts_of s qs) at r ≡ passed → is_end r ≡ false → RunAlong next (more r at qs)) o
        (λ z k n e. along_head z (long k) n)
        (λ l z k n e. along_channel l z (long k) n)
        (λ l z k n e. along_state l z (opened_whole s at 3 o k) (long k) n)
        (λ l z k n e. never (cc))
      where
        long : {k : ℕ} → kind_at s at ≡ k → length_at s at ≡ length_of k (head_of s)
        long e = (opened s at o).size ∙ ap (λ k. length_of k (head_of s)) e

  pub along_next : (at next : ℕ) (qs : List ℕ) (r : Record) → RunAlong at qs → step_at s at ≡ Ok (r, next) → check_record s (counts_of s qs) at r ≡ passed
      → is_end r ≡ false → RunAlong next (more r at qs)
  along_next at next qs r w g n e =
      let d = record_stepped s at next r g in
      rw (← d.item) at (along_record at next qs w d.opening d.on (rw (← d.item) n) (rw (← d.item) e))

  -- what an accepted run is
  pub record Accepted (qs : List ℕ) : Type 0 where
    pub head : HeadOk (head_of s)
    pub channels : (h : ℕ) → h < (head_of s).channels → ChannelOk h
    pub states : (i : ℕ) → i < length qs → RecordOk qs i
    pub whole : length s ≡ base + size * length qs + 4
    pub peopled : (p : ℕ) → p < (head_of s).processes → 1 ≤ length (places_of s qs p)

  at_end : (at next : ℕ) (qs : List ℕ) (r : Record) → RunAlong at qs → step_at s at ≡ Ok (r, next) → check_record s (counts_of s qs) at r ≡ passed → is_end r ≡ true
      → length s ≤ next → Accepted qs
  at_end at next qs (R.Head h) w g n i last = never (cc)
  at_end at next qs (R.Channel l) w g n i last = never (cc)
  at_end at next qs (R.State f) w g n i last = never (cc)
  at_end at next qs R.End w g n i last =
      let d = record_stepped s at next R.End g in
      let (z, l, long) = end_there s at d.opening (sym d.item) in
      let ok = w.head z in
      let (h, a, b, f) = w.past z in
      let all : h ≡ (head_of s).channels = ⊎_elim (λ x. x) (λ x. absurd (omega (arith, none_long qs (f x)))) (eq-or-lt_of_le a) in
      record {
        head = ok;
        channels = λ h' x. w.channels h' x (omega arith);
        states = w.states;
        whole = omega (arith, b, all, long, last, d.on, d.within);
        peopled = λ p x.
            let counted = counts_at s qs p (omega (arith, ok.few)) in
            positive (λ y. none_lacks (counts_of s qs) (head_of s).processes (refuse_if_ok _ Start n) p x (counted ∙ y));
      }

  pub run_accepted : (qs : List ℕ) → read_of s ≡ Ok qs → (length s ≤ 65535) × Accepted qs
  unfolding read_of
  run_accepted = accepted_holds (run_pass s) RunAlong Accepted along_next at_end along_start
