-- Before, circles, clocks; cuts, consistent or not; what is in transit.
use Rattle.std.specs.Prelude.{◌≡◌, ◌⊎◌, ◌≢◌, Bool, false, ◌||◌, cond, List, [], ◌∷◌, ℕ, zero, suc, ◌≤◌, ◌<◌, eqb, length, get_or}
use Rattle.std.proofs.Math.Option.{Option, some, none}
use Rattle.model.specs.declared.Message.{Message}
use Rattle.model.specs.Run.{Run, processes, into, channel, IsState, sending, paired, Paired}

-- state k of process i is before state l of process j: the smallest transitive relation in which each state is before the next of its process,
-- and the state just ahead of a send is before the state that its receive leads into
pub data Before (r : Run) : ℕ → ℕ → ℕ → ℕ → Type 0 where
  next : {i k : ℕ} → IsState r i k → IsState r i (suc k) → Before r i k i (suc k)
  message : {i k j l : ℕ} → Paired r i (suc k) j l → Before r i k j l
  through : {i k j l m n : ℕ} → Before r i k j l → Before r j l m n → Before r i k m n

-- state l of process j is on a circle or after one
pub record AfterCircle (r : Run) (j l : ℕ) : Type 0 where
  pub process : ℕ
  pub number : ℕ
  pub circle : Before r process number process number
  pub reach : ((process ≡ j) × (number ≡ l)) ⊎ Before r process number j l

-- place i of the clock at state l of process j is k: l in the own place, else the largest k for which state k of i is before it, or 0
pub record ClockIs (r : Run) (j l i k : ℕ) : Type 0 where
  pub own : i ≡ j → k ≡ l
  pub bound : i ≢ j → (n : ℕ) → Before r i n j l → n ≤ k
  pub reached : i ≢ j → (k ≡ 0) ⊎ Before r i k j l

-- the number that a cut has for process i
abbrev pub at : List ℕ → ℕ → ℕ
at cut i = get_or cut i 0

-- a cut names one state of each process
pub record IsCut (r : Run) (cut : List ℕ) : Type 0 where
  pub size : length cut ≡ processes r
  pub states : (i : ℕ) → i < processes r → IsState r i (at cut i)

-- no chosen state is before another
unfoldable pub Consistent : Run → List ℕ → Type 0
Consistent r cut = (i j : ℕ) → i ≢ j → ¬ Before r i (at cut i) j (at cut j)

abbrev pub on_channel : ℕ → Option Message → Option Message
on_channel c none = none
on_channel c (some m) = cond (eqb m.channel c) (some m) none

-- what state k of channel c's sender sends on c
unfoldable pub sends : Run → ℕ → ℕ → Option Message
sends r c k = on_channel c (sending (into r (channel r c).from k))

-- the test passes at one of 1 to n
abbrev pub some_up_to : (ℕ → Bool) → ℕ → Bool
some_up_to f zero = false
some_up_to f (suc n) = f (suc n) || some_up_to f n

-- what state k of channel c's sender sends on c, where it isn't received up to state b of c's receiver
unfoldable pub waiting : Run → ℕ → ℕ → ℕ → Option Message
waiting r c b k = cond (some_up_to (paired r (channel r c).from k (channel r c).to) b) none (sends r c k)

-- the messages of states 1 to a, the latest first
abbrev pub add : Option Message → List Message → List Message
add none ms = ms
add (some m) ms = m ∷ ms

abbrev pub up_to : (ℕ → Option Message) → ℕ → List Message
up_to f zero = []
up_to f (suc k) = add (f (suc k)) (up_to f k)

-- the messages sent on channel c up to state a of its sender and not received up to state b of its receiver
unfoldable pub between : Run → ℕ → ℕ → ℕ → List Message
between r c a b = up_to (waiting r c b) a

-- the messages on channel c at a cut, consistent or not
unfoldable pub in_transit : Run → List ℕ → ℕ → List Message
in_transit r cut c = between r c (at cut (channel r c).from) (at cut (channel r c).to)
