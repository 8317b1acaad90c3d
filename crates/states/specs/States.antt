-- What a state record says, and the run that the places of its state records make of a file.
use Rattle.std.specs.Prelude.{cond, List, [], ◌∷◌, map, ℕ, zero, suc, ◌+◌, eqb}
use Rattle.model.specs.declared.Message.{Message}
use Rattle.model.specs.declared.Channel.{Channel}
use Rattle.model.specs.declared.Event.{Event}
use Rattle.model.specs.declared.Event.TheVariants.{Start, Internal, Send, Receive}
use Rattle.model.specs.Run as M
use Rattle.record.specs.Bytes.{u16_at, i32_at, signed}
use Rattle.record.specs.Layout.{channel_place, value_count, value_place}
use Rattle.record.specs.Record.{head_of, state_fields_at}
use Rattle.record.specs.declared.StateFields.{StateFields}

unfoldable pub message_of : StateFields → Message
message_of f = record { channel = f.channel; number = f.message; stamp = signed f.stamp }

-- events 0 to 3; a record with another event is never accepted
unfoldable pub event_of : StateFields → Event
event_of f =
    cond (eqb f.event 0) Start
    (cond (eqb f.event 1) Internal
    (cond (eqb f.event 2) (Send (message_of f))
    (Receive (message_of f))))

-- f 0 to f (n - 1)
unfoldable pub tabulate : {A : Type 0} → ℕ → (ℕ → A) → List A
tabulate zero f = []
tabulate (suc n) f = f 0 ∷ tabulate n (λ k. f (suc k))

-- the state that the record at a place says
unfoldable pub state_at : List ℕ → ℕ → M.State
state_at s at = record { event = event_of (state_fields_at s at); values = tabulate value_count (λ v. i32_at s (at + value_place v)) }

unfoldable pub channel_at : List ℕ → ℕ → Channel
channel_at s h = record { from = u16_at s (channel_place h + 6); to = u16_at s (channel_place h + 8) }

-- of the places of state records in file order, those of process p
unfoldable pub places_of : List ℕ → List ℕ → ℕ → List ℕ
places_of s [] p = []
places_of s (q ∷ qs) p = cond (eqb (state_fields_at s q).process p) (q ∷ places_of s qs p) (places_of s qs p)

-- the run of a file whose state records stand at these places, in file order
unfoldable pub run_of : List ℕ → List ℕ → M.Run
run_of s qs = record {
  histories = tabulate (head_of s).processes (λ p. map (state_at s) (places_of s qs p));
  channels = tabulate (head_of s).channels (channel_at s);
}
