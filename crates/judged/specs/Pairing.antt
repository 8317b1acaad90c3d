-- Words of the contracts of the inner functions that pair each receive with its send; the promises don't use them. Here s are a run's bytes, r the run and ix its
-- index, k is a state of process p, m a message, and sends says whether sends are meant, or receives. The marks have of each channel a number above all that the
-- process has sent, or received, so far. What is written with ' is as the function leaves it.
use Rattle.std.specs.Prelude.{◌≡◌, ◌⊎◌, ◌≢◌, Bool, true, false, List, ℕ, ◌+◌, ◌*◌, ◌≤◌, ◌<◌, T, length, get_or, set, Option, Some, None}
use Rattle.std.specs.Option.{IfSome}
use Rattle.std.proofs.Math.Option.{Option as Maybe, some}
use Rattle.model.specs.declared.Message.{Message}
use Rattle.model.specs.declared.Event.{Event}
use Rattle.model.specs.declared.Event.TheVariants.{Receive}
use Rattle.model.specs.Run.{Run, count, channel, into, IsState, sending, receiving, same_message, Paired}
use Rattle.record.specs.Record.{head_of}
use Rattle.run.specs.Said.{run_in}
use Rattle.run.specs.Index.{partner_at, Listed}

-- ---- a state that carries a message

-- what an event sends, or what it receives
unfoldable pub which : Bool → Event → Maybe Message
which true e = sending e
which false e = receiving e

unfoldable pub carries : Bool → Event → Message → Bool
carries sends e m = same_message (which sends e) (some m)

-- one of states low to high of process p that carries the message, or none does
pub data Carrier (r : Run) (p low high : ℕ) (sends : Bool) (m : Message) : Option ℕ → Type 0 where
  absent : ((l : ℕ) → low ≤ l → l ≤ high → ¬ T (carries sends (into r p l) m)) → Carrier r p low high sends m None
  present : (k : ℕ) → low ≤ k → k ≤ high → T (carries sends (into r p k) m) → Carrier r p low high sends m (Some k)

-- states low to high of process p are there
pub record Stretch (s ix : List ℕ) (p low high : ℕ) : Type 0 where
  pub listed : Listed s ix
  pub process : p < (head_of s).processes
  pub first : 1 ≤ low
  pub last : high ≤ count (run_in s) p

-- a state of the channel's sender that sends the message, or none does
abbrev pub SendIs : Run → Message → Option ℕ → Type 0
SendIs r m = let from = (channel r m.channel).from in Carrier r from 1 (count r from) true m

-- ---- marks

-- entry 2 c for what is sent on channel c, 2 c + 1 for what is received
unfoldable pub mark_at : Bool → ℕ → ℕ
mark_at true c = 2 * c
mark_at false c = 2 * c + 1

-- each number that a state of process p ahead of state k sent, or received, is below the mark of its channel
unfoldable pub Rising : Run → Bool → ℕ → ℕ → List ℕ → Type 0
Rising r sends p k marks = (l : ℕ) (m : Message) → l < k → which sends (into r p l) ≡ some m → m.number < get_or marks (mark_at sends m.channel) 0

-- the marks ahead of state k of process p, and a channel that has one
pub record Marking (r : Run) (sends : Bool) (p k c : ℕ) (marks : List ℕ) : Type 0 where
  pub long : length marks ≡ 32
  pub channel : c < 16
  pub rising : Rising r sends p k marks

abbrev pub Higher : List ℕ → List ℕ → Type 0
Higher marks marks' = (i : ℕ) → get_or marks i 0 ≤ get_or marks' i 0

-- whether a state ahead of state k of process p carried its message, and the marks behind it
pub record Repeats (r : Run) (p k : ℕ) (sends : Bool) (m : Message) (marks marks' : List ℕ) (answer : Bool) : Type 0 where
  pub higher : Higher marks marks'
  pub own : m.number < get_or marks' (mark_at sends m.channel) 0
  pub earlier : answer ≡ true → (l : ℕ) × (1 ≤ l) × (l < k) × T (carries sends (into r p l) m)
  pub new : answer ≡ false → (l : ℕ) → l < k → ¬ T (carries sends (into r p l) m)

-- ---- a state

-- no state of process p ahead of state k sent, or received, what it does; and what it receives has a send
pub record Clear (r : Run) (p k : ℕ) : Type 0 where
  pub new_send : (l : ℕ) → l < k → ¬ T (same_message (sending (into r p l)) (sending (into r p k)))
  pub new_receive : (l : ℕ) → l < k → ¬ T (same_message (receiving (into r p l)) (receiving (into r p k)))
  pub has_send : (m : Message) → into r p k ≡ Receive m → (i : ℕ) × (l : ℕ) × Paired r i l p k

-- an earlier state made the same send, or the same receive; or a receive has no send
pub data Faulty (r : Run) (p k : ℕ) : Type 0 where
  again : (sends : Bool) (l : ℕ) → 1 ≤ l → l < k → T (same_message (which sends (into r p l)) (which sends (into r p k))) → Faulty r p k
  alone : (m : Message) → into r p k ≡ Receive m → ((i l : ℕ) → ¬ Paired r i l p k) → Faulty r p k

-- the receive into state k of process p is entered with its send
pub record Entered (r : Run) (p k : ℕ) (ix ix' : List ℕ) : Type 0 where
  pub process : ℕ
  pub state : ℕ
  pub pair : Paired r process state p k
  pub after : ix' ≡ set (set ix (partner_at process state) k) (partner_at p k) state

-- whether a receive is entered
pub record Received (r : Run) (p k : ℕ) (ix ix' : List ℕ) (answer : Bool) : Type 0 where
  pub entered : answer ≡ true → Entered r p k ix ix'
  pub alone : answer ≡ false → (i l : ℕ) → ¬ Paired r i l p k

-- marks for 16 channels, both ways, and of each the last send that was found
pub record PairingTables (marks hints : List ℕ) : Type 0 where
  pub marked : length marks ≡ 32
  pub hinted : length hints ≡ 16

-- process p, when its states ahead of state k are judged
pub record PairingAt (s ix marks hints : List ℕ) (p k : ℕ) : Type 0 where
  pub listed : Listed s ix
  pub tables : PairingTables marks hints
  pub sent : Rising (run_in s) true p k marks
  pub received : Rising (run_in s) false p k marks

-- whether state k of process p is clear, and what it receives is entered then
pub record Settled (r : Run) (p k : ℕ) (ix ix' marks' : List ℕ) (answer : Bool) : Type 0 where
  pub clear : answer ≡ true → Clear r p k
  pub faulty : answer ≡ false → Faulty r p k
  pub entered : answer ≡ true → ((ix' ≡ ix) × ((m : Message) → into r p k ≢ Receive m)) ⊎ Entered r p k ix ix'
  pub sent : Rising r true p (k + 1) marks'
  pub received : Rising r false p (k + 1) marks'

-- ---- all states of a process, and of all processes

-- every entry of the partners is 0 or says a pair
unfoldable pub Backed : Run → List ℕ → Type 0
Backed r ix = (i k : ℕ) → IsState r i k
    → (get_or ix (partner_at i k) 0 ≡ 0) ⊎ ((j : ℕ) × Paired r i k j (get_or ix (partner_at i k) 0)) ⊎ ((j : ℕ) × Paired r j (get_or ix (partner_at i k) 0) i k)

-- a receive that is entered at both its ends
unfoldable pub Met : Run → List ℕ → ℕ → ℕ → Type 0
Met r ix j l = (m : Message) → into r j l ≡ Receive m → (i : ℕ) × (k : ℕ) × Paired r i k j l × (get_or ix (partner_at j l) 0 ≡ k) × (get_or ix (partner_at i k) 0 ≢ 0)

-- k is the first faulty state of process p, or none is; then all that it receives is entered
pub record ProcessPaired (r : Run) (p : ℕ) (ix ix' : List ℕ) (k : Option ℕ) : Type 0 where
  pub faulty : IfSome k (λ k. IsState r p k × Faulty r p k)
  pub clear : (l : ℕ) → IsState r p l → IfSome k (λ k. l < k) → Clear r p l
  pub backed : k ≡ None → Backed r ix → Backed r ix'
  pub met : k ≡ None → (l : ℕ) → IsState r p l → Met r ix' p l
  pub kept : k ≡ None → (j l : ℕ) → IsState r j l → j ≢ p → Met r ix j l → Met r ix' j l

-- processes 0 to n - 1 are paired: of each the first faulty state, or none
pub record ProcessesPaired (r : Run) (n : ℕ) (bad : List (Option ℕ)) (ix : List ℕ) : Type 0 where
  pub faulty : (p : ℕ) → p < n → IfSome (get_or bad p None) (λ k. IsState r p k × Faulty r p k)
  pub clear : (p l : ℕ) → p < n → IsState r p l → IfSome (get_or bad p None) (λ k. l < k) → Clear r p l
  pub backed : ((p : ℕ) → p < n → get_or bad p None ≡ None) → Backed r ix
  pub met : ((p : ℕ) → p < n → get_or bad p None ≡ None) → (p l : ℕ) → p < n → IsState r p l → Met r ix p l
