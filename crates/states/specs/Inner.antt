-- Words of the contracts of the functions that read and judge one record; the promises don't use them.
use Rattle.std.specs.Prelude.{◌≡◌, List, ℕ, ◌+◌, ◌≤◌, length}
use Rattle.record.specs.Layout.{channel_length, channel_place}
use Rattle.record.specs.Inner.{states_place, values_place}
use Rattle.record.specs.Record.{head_of, check_opening, record_at}
use Rattle.record.specs.Refusal.{passed}
use Rattle.record.specs.declared.Head.{Head}
use Rattle.record.specs.declared.StateFields.{StateFields}
use Rattle.record.specs.declared.Record.{Record}
use Rattle.states.specs.declared.State.{State}
use Rattle.states.specs.States.{event_of}

-- the state as code holds it: its values stay in the bytes
abbrev pub held : StateFields → ℕ → State
held f at = record { process = f.process; event = event_of f; values = at + values_place }

-- the record of channel h is there to its end
abbrev pub HasChannel : List ℕ → ℕ → Type 0
HasChannel s h = channel_place h + channel_length ≤ length s

-- what a state is judged beside: the run's head, which is right, and the counts of eight processes
pub record StateBeside (s : List ℕ) (h : Head) (counts : List ℕ) : Type 0 where
  pub head : h ≡ head_of s
  pub few : h.processes ≤ 8
  pub channels : states_place h ≤ length s
  pub eight : length counts ≡ 8

-- what a record that the step gave is judged beside: the same, but that a head at 0 may yet be wrong
pub record RecordBeside (s : List ℕ) (h : Head) (counts : List ℕ) (at : ℕ) (r : Record) : Type 0 where
  pub head : h ≡ head_of s
  pub few : (at ≡ 0 → ⊥) → h.processes ≤ 8
  pub eight : length counts ≡ 8
  pub opening : check_opening s at ≡ passed
  pub item : r ≡ record_at s at
