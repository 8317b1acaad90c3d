-- What is sent and what is received up to a cut: the words of the laws that a cut is consistent by its messages, and that on each channel both
-- differ by what is in transit.
use Rattle.std.specs.Prelude.{◌≡◌, List, ℕ, ◌≤◌}
use Rattle.std.proofs.Math.Option.{Option}
use Rattle.model.specs.declared.Message.{Message}
use Rattle.model.specs.declared.Event.TheVariants.{Receive}
use Rattle.model.specs.Run.{Run, into, channel, receiving, Paired}
use Rattle.model.specs.Cut.{at, on_channel, sends, up_to}

-- each message received up to the cut was sent up to it
unfoldable pub ByMessage : Run → List ℕ → Type 0
ByMessage r cut = (j l : ℕ) (m : Message) → l ≤ at cut j → into r j l ≡ Receive m → (i : ℕ) × (k : ℕ) × Paired r i k j l × (k ≤ at cut i)

-- what state l of channel c's receiver receives on c
unfoldable pub receives : Run → ℕ → ℕ → Option Message
receives r c l = on_channel c (receiving (into r (channel r c).to l))

-- the messages sent on channel c up to the cut, and those received on it up to the cut
abbrev pub sent_up_to : Run → List ℕ → ℕ → List Message
sent_up_to r cut c = up_to (sends r c) (at cut (channel r c).from)

abbrev pub received_up_to : Run → List ℕ → ℕ → List Message
received_up_to r cut c = up_to (receives r c) (at cut (channel r c).to)
