-- What `bring_forward` needs and leaves, by the event of the state that the process moves into.
use mathlib.Core.Path.{◌≡◌, refl, sym, ap, ◌∙◌, subst}
use mathlib.Core.Logic.{◌≢◌}
use mathlib.Core.Bool.{Bool, ◌||◌}
use mathlib.Core.List.{List}
use Prim.Native.Nat.{ℕ, ◌+◌, ◌<◌}
use native.Mathlib.Omega.{arith}
use lib.Dec.{eqb, ltb}
use lib.ListN.{length, get_or}
use Rattle.model.specs.declared.Channel.{Channel}
use Rattle.model.specs.declared.Message.{Message}
use Rattle.model.specs.declared.Event.TheVariants.{Send, Receive}
use Rattle.model.specs.Run.{Run, into, channel, IsState}
use Rattle.model.specs.Known.{Known}
use Rattle.model.specs.Cut.{at, waiting, between, in_transit}
use Rattle.model.specs.NotYetSent.{unsent, ahead, not_yet_sent, move_on}
use Rattle.model.proofs.Numbers.{never}
use Rattle.model.proofs.Messages.{send_sends, receive_receives}
use Rattle.model.proofs.Kept.{kept_sender, kept_receiver, kept_still}
use Rattle.states.specs.States.{channel_at}
use Rattle.run.specs.Said.{run_in}
use Rattle.run.specs.Index.{partner_at, HasSlot, IndexHolds}
use Rattle.run.proofs.Listed.{channels_are, listed_slot}
use Rattle.transit.proofs.Between.{Ends, ends_of, up_to_few}
use Rattle.transit.proofs.Stored.{states_few}
use Rattle.kept.specs.Kept.{CountsKept, MayMove}
use Rattle.kept.proofs.Counted.{none_changed, CountedMessage, counted_message}
use Rattle.kept.proofs.Partners.{sent_past, received_past}

-- the code's test of a partner
abbrev pub past_in : List ℕ → ℕ → ℕ → ℕ → Bool
past_in ix p k state = eqb (get_or ix (partner_at p k) 0) 0 || ltb state (get_or ix (partner_at p k) 0)

module _ {s ix cut : List ℕ} (holds : IndexHolds s ix) {p : ℕ} (w : MayMove s cut p) where
  abbrev r : Run
  r = run_in s

  known : Known r
  known = holds.known

  abbrev next : ℕ
  next = at cut p + 1

  pub next_state : IsState r p next
  next_state = record { counted = omega arith; there = omega (arith, w.further) }

  pub next_slot : HasSlot p next
  next_slot = listed_slot s ix holds.listed next_state

  -- the ends of a channel, which the cut has
  pub ends_in : {c : ℕ} → c < length r.channels → {e : Channel} → e ≡ channel_at s c → Ends r c e
  ends_in h z = let read = holds.listed.read in ends_of s read (omega (arith, channels_are s read)) z

  pub in_cut : {c : ℕ} {e : Channel} → Ends r c e → (e.from < length cut) × (e.to < length cut)
  in_cut ends = (omega (arith, ends.from, w.is_cut.size), omega (arith, ends.to, w.is_cut.size))

  -- of that state's partner
  abbrev pub past_of : ℕ → Bool
  past_of = past_in ix p next

  -- what is in transit, and what is received but not yet sent, before the move and after it
  abbrev on : ℕ → List Message
  on = in_transit r cut

  abbrev on' : ℕ → List Message
  on' = in_transit r (move_on cut p)

  abbrev early : ℕ → List Message
  early = not_yet_sent r cut

  abbrev early' : ℕ → List Message
  early' = not_yet_sent r (move_on cut p)

  -- neither number reaches what a place can hold
  on_few : (c : ℕ) → c < length r.channels → length (on c) < 65535
  unfolding in_transit between
  on_few c h = let from = (known.sides.ends c h).0 in omega (arith, up_to_few (waiting r c (at cut (channel r c).to)) (at cut (channel r c).from), states_few holds (w.is_cut.states _ from))

  early_few : (c : ℕ) → c < length r.channels → length (early c) < 65535
  unfolding not_yet_sent ahead
  early_few c h = let to = (known.sides.ends c h).1 in omega (arith, up_to_few (unsent r c (at cut (channel r c).from)) (at cut (channel r c).to), states_few holds (w.is_cut.states _ to))

  -- a channel that isn't that of the event
  elsewhere : (d : ℕ) → ((m : Message) → into r p next ≡ Send m → m.channel ≡ d) → ((m : Message) → into r p next ≡ Receive m → m.channel ≡ d)
      → (c : ℕ) → c < length r.channels → c ≢ d → (length (on' c) ≡ length (on c)) × (length (early' c) ≡ length (early c))
  elsewhere d x y c h n = kept_still r known cut w.is_cut p w.process c h (λ m e z. n (sym z ∙ x m e)) (λ m e z. n (sym z ∙ y m e))

  module _ {counts ahead : List ℕ} (kept : CountsKept r cut counts ahead) where
    -- the event has no message
    pub quiet : ((m : Message) → into r p next ≢ Send m) → ((m : Message) → into r p next ≢ Receive m) → CountsKept r (move_on cut p) counts ahead
    quiet x y = record { first = none_changed kept.first (λ c h. (same c h).0); second = none_changed kept.second (λ c h. (same c h).1) }
      where
        same : (c : ℕ) → c < length r.channels → (length (on' c) ≡ length (on c)) × (length (early' c) ≡ length (early c))
        same c h = kept_still r known cut w.is_cut p w.process c h (λ m e z. x m e) (λ m e z. y m e)

    -- a send: its own number is the first
    pub send_counted : (m : Message) → into r p next ≡ Send m → (past : Bool) → past ≡ past_of (at cut (channel r m.channel).to)
        → CountedMessage past m.channel counts ahead (CountsKept r (move_on cut p))
    send_counted m e past z =
        let c = m.channel in
        let (named, own) = known.sides.sender p next m e in
        let others = elsewhere c (λ n g. ap (λ x. x.channel) (let same : n ≡ m = cc (g, e) in same)) (λ n g. never (cc (g, e))) in
        counted_message on early on' early' kept.first kept.second named _ (λ x y a b. record { first = a; second = b }) past m
        (rw (send_sends r c next m (subst (λ q. into r q next ≡ Send m) (sym own) e) refl, sent_past r known ix holds.partners p next m e (at cut (channel r c).to), ← z)
        at (kept_sender r known cut w.is_cut p w.process c named own))
        (on_few c named) (λ d h n. (others d h n).0) (λ d h n. (others d h n).1)

    -- a receive: its own number is the second
    pub receive_counted : (m : Message) → into r p next ≡ Receive m → (past : Bool) → past ≡ past_of (at cut (channel r m.channel).from)
        → CountedMessage past m.channel ahead counts (λ x y. CountsKept r (move_on cut p) y x)
    receive_counted m e past z =
        let c = m.channel in
        let (named, own) = known.sides.receiver p next m e in
        let others = elsewhere c (λ n g. never (cc (g, e))) (λ n g. ap (λ x. x.channel) (let same : n ≡ m = cc (g, e) in same)) in
        counted_message early on early' on' kept.second kept.first named _ (λ x y a b. record { first = b; second = a }) past m
        (rw (receive_receives r c next m (subst (λ q. into r q next ≡ Receive m) (sym own) e) refl, received_past r known ix holds.partners p next m e (at cut (channel r c).from), ← z)
        at (kept_receiver r known cut w.is_cut p w.process c named own))
        (early_few c named) (λ d h n. (others d h n).1) (λ d h n. (others d h n).0)
