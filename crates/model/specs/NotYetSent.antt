-- What is received but not yet sent at a cut, and how it and what is in transit change where a process moves one state.
use Rattle.std.specs.Prelude.{◌≡◌, Bool, true, false, cond, List, ℕ, suc, ◌+◌, set}
use Rattle.std.proofs.Math.Option.{Option, some, none}
use Rattle.model.specs.declared.Message.{Message}
use Rattle.model.specs.Run.{Run, channel, paired}
use Rattle.model.specs.Cut.{at, some_up_to, up_to}
use Rattle.model.specs.Sent.{receives}

-- what state l of channel c's receiver receives on c, where it isn't sent up to state a of c's sender
unfoldable pub unsent : Run → ℕ → ℕ → ℕ → Option Message
unsent r c a l = cond (some_up_to (λ k. paired r (channel r c).from k (channel r c).to l) a) none (receives r c l)

-- the messages received on channel c up to state b of its receiver and not sent up to state a of its sender
unfoldable pub ahead : Run → ℕ → ℕ → ℕ → List Message
ahead r c a b = up_to (unsent r c a) b

-- the messages received on channel c and not yet sent at a cut (source document 002, the set R): none where the cut is consistent
unfoldable pub not_yet_sent : Run → List ℕ → ℕ → List Message
not_yet_sent r cut c = ahead r c (at cut (channel r c).from) (at cut (channel r c).to)

-- the cut with process p one state further on
abbrev pub move_on : List ℕ → ℕ → List ℕ
move_on cut p = set cut p (at cut p + 1)

-- a process moves into a state that sends (or receives) o on a channel. own is the count that such a message belongs to, other that of the other end.
-- nothing on the channel: both stay. A message whose other end is in: the other count is one less. Else: the own count is one more.
abbrev pub OneMove : Option Message → (met : Bool) → (own other own' other' : ℕ) → Type 0
OneMove none met own other own' other' = (own' ≡ own) × (other' ≡ other)
OneMove (some m) true own other own' other' = (own' ≡ own) × (other ≡ suc other')
OneMove (some m) false own other own' other' = (own' ≡ suc own) × (other' ≡ other)
