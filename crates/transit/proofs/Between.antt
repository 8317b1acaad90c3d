-- What is in transit as the sender goes on by one state.
use Rattle.std.proofs.Common.{Ok}
use mathlib.Core.Path.{◌≡◌, refl, sym, ap, ◌∙◌}
use mathlib.Core.Bool.{Bool, true, false, ◌||◌}
use mathlib.Core.List.{List, []}
use mathlib.Core.Option.{Option, some, none}
use Prim.Native.Nat.{ℕ, zero, suc, ◌+◌, ◌≤◌, ◌<◌, zero-le}
use Rattle.std.proofs.Common.{zero-add}
use Rattle.std.specs.List.{list_any, range_with_len}
use native.Mathlib.Numerals.{add-one}
use native.Mathlib.Omega.{arith}
use lib.ListN.{length}
use Rattle.model.specs.declared.Channel.{Channel}
use Rattle.model.specs.declared.Message.{Message}
use Rattle.model.specs.Run.{Run, processes, channel, IsState}
use Rattle.model.specs.Cut.{IsCut, waiting, add, up_to, between, in_transit}
use Rattle.model.specs.Clause.{some_of}
use Rattle.record.specs.Record.{head_of}
use Rattle.states.specs.States.{channel_at}
use Rattle.run.specs.Read.{read_of}
use Rattle.run.specs.Said.{states_of, run_in}
use Rattle.run.specs.Index.{IndexHolds}
use Rattle.run.proofs.Listed.{sides, channels_are, channel_same}
use Rattle.transit.specs.declared.Span.{Span}
use Rattle.transit.specs.Waiting.{span_of, SenderThere}
use Rattle.transit.proofs.Stored.{states_few}

some_add : (f : Message → Bool) (o : Option Message) (ms : List Message) → some_of f (add o ms) ≡ (some_of f (add o []) || some_of f ms)
some_add f none ms = refl
some_add f (some m) ms = go (f m)
  where
    go : (t : Bool) → (t || some_of f ms) ≡ ((t || false) || some_of f ms)
    go true = refl
    go false = refl

or_next : (x y z : Bool) → ((x || y) || z) ≡ (y || (x || z))
or_next true true z = refl
or_next true false z = refl
or_next false y z = refl

pub or_false : (t : Bool) → (t || false) ≡ t
or_false true = refl
or_false false = refl

module _ (r : Run) (c b : ℕ) where
  pub next_between : (k : ℕ) → between r c (k + 1) b ≡ add (waiting r c b (k + 1)) (between r c k b)
  unfolding between
  next_between k = rw add-one refl

  -- state k + 1 has a message for which f says so
  abbrev pub one_more : (Message → Bool) → ℕ → Bool
  one_more f k = some_of f (add (waiting r c b (k + 1)) [])

  some_next : (f : Message → Bool) (k : ℕ) → some_of f (between r c (k + 1) b) ≡ (one_more f k || some_of f (between r c k b))
  some_next f k = ap (some_of f) (next_between k) ∙ some_add f (waiting r c b (k + 1)) (between r c k b)

  some_from : (f : Message → Bool) (n k : ℕ) → (list_any (one_more f) (range_with_len k n) || some_of f (between r c k b)) ≡ some_of f (between r c (k + n) b)
  some_from f zero k = let e : k + 0 ≡ k = omega arith in rw e refl
  some_from f (suc n) k =
      let rest = list_any (one_more f) (range_with_len (k + 1) n) in
      let e : k + 1 + n ≡ k + suc n = omega arith in
      or_next (one_more f k) rest (some_of f (between r c k b)) ∙ ap (λ t. rest || t) (sym (some_next f k)) ∙ some_from f n (k + 1) ∙ ap (λ a. some_of f (between r c a b)) e

  -- one of the states from 1 on has it
  pub some_between : (f : Message → Bool) (n : ℕ) → list_any (one_more f) (range_with_len 0 n) ≡ some_of f (between r c n b)
  unfolding between
  some_between f n = sym (or_false (list_any (one_more f) (range_with_len 0 n))) ∙ some_from f n 0 ∙ ap (λ a. some_of f (between r c a b)) (zero-add n)

-- the ends of a channel, as its record says them
pub record Ends (r : Run) (c : ℕ) (e : Channel) : Type 0 where
  pub same : e ≡ channel r c
  pub from : e.from < processes r
  pub to : e.to < processes r

pub ends_of : (s : List ℕ) → read_of s ≡ Ok (states_of s) → {c : ℕ} → c < (head_of s).channels → {e : Channel} → e ≡ channel_at s c → Ends (run_in s) c e
ends_of s read {c} h z =
    let n : c < length (run_in s).channels = omega (arith, channels_are s read) in
    let same = z ∙ channel_same s read c n in
    let within = (sides s read).ends c n in
    record { same = same; from = rw same within.0; to = rw same within.1 }

-- no more messages than states
pub up_to_few : (f : ℕ → Option Message) (a : ℕ) → length (up_to f a) ≤ a
up_to_few f zero = zero-le
up_to_few f (suc a) = go (f (suc a)) (up_to_few f a)
  where
    go : (m : Option Message) → length (up_to f a) ≤ a → length (add m (up_to f a)) ≤ suc a
    go none h = omega arith
    go (some m) h = omega arith

pub between_few : (r : Run) (c b k : ℕ) → length (between r c k b) ≤ k
unfolding between
between_few r c b k = up_to_few (waiting r c b) k

-- ---- a span of a channel that is asked

module _ {s ix cut : List ℕ} (holds : IndexHolds s ix) (is : IsCut (run_in s) cut) {c : ℕ} (there : c < (head_of s).channels) where
  from_there : (channel (run_in s) c).from < processes (run_in s)
  from_there = let read = holds.listed.read in ((sides s read).ends c (omega (arith, channels_are s read))).0

  -- the sender has all states up to the cut
  pub span_there : SenderThere (run_in s) (span_of (run_in s) cut c)
  unfolding span_of
  span_there = let state = is.states _ from_there in record { own = refl; state = state; few = states_few holds state }

module _ {r : Run} {span : Span} (w : SenderThere r span) where
  pub span_state : {k : ℕ} → 1 ≤ k → k ≤ span.sent → IsState r span.from k
  span_state h g = record { counted = h; there = omega (arith, w.state.there, g) }

  module _ (cut : List ℕ) (c : ℕ) (e : span ≡ span_of r cut c) where
    pub span_transit : between r span.channel span.sent span.received ≡ in_transit r cut c
    unfolding span_of in_transit
    span_transit = rw e refl

    -- no more messages than the sender has states
    pub span_few : length (in_transit r cut c) ≤ 512
    span_few = omega (arith, ap length span_transit, between_few r span.channel span.received span.sent, w.few)
