-- What an accepted run is known to obey. The promises don't use it: it follows from acceptance.
use Rattle.std.specs.Prelude.{◌≡◌, ◌≢◌, ◌↔◌, ℕ, ◌≤◌, ◌<◌, length}
use Rattle.model.specs.declared.Message.{Message}
use Rattle.model.specs.declared.Event.TheVariants.{Start, Send, Receive}
use Rattle.model.specs.Run.{Run, processes, count, into, channel, IsState, Paired}

-- what an accepted run is known to obey: starts and sides
pub record Sides (r : Run) : Type 0 where
  pub peopled : (i : ℕ) → i < processes r → 1 ≤ count r i
  pub starts : (i k : ℕ) → IsState r i k → (into r i k ≡ Start) ↔ (k ≡ 1)
  pub ends : (c : ℕ) → c < length r.channels → ((channel r c).from < processes r) × ((channel r c).to < processes r) × ((channel r c).from ≢ (channel r c).to)
  pub sender : (i k : ℕ) (m : Message) → into r i k ≡ Send m → (m.channel < length r.channels) × ((channel r m.channel).from ≡ i)
  pub receiver : (j l : ℕ) (m : Message) → into r j l ≡ Receive m → (m.channel < length r.channels) × ((channel r m.channel).to ≡ j)

-- and pairing: a message number is sent at most once on a channel and received at most once, and a received message has a send
pub record Known (r : Run) : Type 0 where
  pub sides : Sides r
  pub once : (i k k' : ℕ) (m m' : Message) → into r i k ≡ Send m → into r i k' ≡ Send m'
      → m.channel ≡ m'.channel → m.number ≡ m'.number → k ≡ k'
  pub taken : (j l l' : ℕ) (m m' : Message) → into r j l ≡ Receive m → into r j l' ≡ Receive m'
      → m.channel ≡ m'.channel → m.number ≡ m'.number → l ≡ l'
  pub origin : (j l : ℕ) (m : Message) → into r j l ≡ Receive m → (i : ℕ) × (k : ℕ) × Paired r i k j l
