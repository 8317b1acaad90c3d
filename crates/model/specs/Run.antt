-- A run: the history of each process and the channels; which send is received where.
use Rattle.std.specs.Prelude.{Bool, false, ◌&&◌, List, [], ℕ, zero, suc, ◌≤◌, T, eqb, ℤ, length, get_or}
use Rattle.std.proofs.Math.Option.{Option, some, none}
use Rattle.model.specs.declared.Channel.{Channel}
use Rattle.model.specs.declared.Message.{Message}
use Rattle.model.specs.declared.Event.{Event}
use Rattle.model.specs.declared.Event.TheVariants.{Start, Internal, Send, Receive}

-- a state: the event that led into it, and its values; clocks aren't compared, so they are no part of it
pub record State : Type 0 where
  pub event : Event
  pub values : List ℤ

pub record Run : Type 0 where
  pub histories : List (List State)
  pub channels : List Channel

abbrev pub processes : Run → ℕ
processes r = length r.histories

-- processes count from 0: the states of process i in its own order
abbrev pub history : Run → ℕ → List State
history r i = get_or r.histories i []

abbrev pub count : Run → ℕ → ℕ
count r i = length (history r i)

-- states of a process count from 1: where there is no state k, a start with no values
abbrev pub no_state : State
no_state = record { event = Start; values = [] }

abbrev pub nth : List State → ℕ → State
nth h zero = no_state
nth h (suc k) = get_or h k no_state

unfoldable pub state : Run → ℕ → ℕ → State
state r i k = nth (history r i) k

-- the event that led into state k of process i
unfoldable pub into : Run → ℕ → ℕ → Event
into r i k = (state r i k).event

-- channels count from 0
abbrev pub channel : Run → ℕ → Channel
channel r c = get_or r.channels c (record { from = 0; to = 0 })

-- process i has a state k
pub record IsState (r : Run) (i k : ℕ) : Type 0 where
  pub counted : 1 ≤ k
  pub there : k ≤ count r i

-- the message that an event sends, and the one that it receives
abbrev pub sending : Event → Option Message
sending Start = none
sending Internal = none
sending (Send m) = some m
sending (Receive m) = none

abbrev pub receiving : Event → Option Message
receiving Start = none
receiving Internal = none
receiving (Send m) = none
receiving (Receive m) = some m

-- a message is known by its number on its channel
abbrev pub same_message : Option Message → Option Message → Bool
same_message none n = false
same_message (some m) none = false
same_message (some m) (some n) = eqb m.channel n.channel && eqb m.number n.number

-- the message whose send leads into state k of process i is the one whose receive leads into state l of process j
unfoldable pub paired : Run → ℕ → ℕ → ℕ → ℕ → Bool
paired r i k j l = same_message (sending (into r i k)) (receiving (into r j l))

pub record Paired (r : Run) (i k j l : ℕ) : Type 0 where
  pub same : T (paired r i k j l)
