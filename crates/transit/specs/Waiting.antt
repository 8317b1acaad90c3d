-- What is in transit on a channel, as code holds it and looks for it.
use Rattle.std.specs.Prelude.{◌≡◌, List, ℕ, ◌≤◌, Option, Some, None}
use Rattle.std.proofs.Math.Option as M
use Rattle.model.specs.declared.Message.{Message}
use Rattle.model.specs.Run.{Run, channel, IsState}
use Rattle.model.specs.Cut.{at}
use Rattle.transit.specs.declared.Span.{Span}

unfoldable pub as_held : M.Option Message → Option Message
as_held M.none = None
as_held (M.some m) = Some m

unfoldable pub inside : Option Message → M.Option Message
inside None = M.none
inside (Some m) = M.some m

-- how far the ends of channel c are at a cut
unfoldable pub span_of : Run → List ℕ → ℕ → Span
span_of r cut c = record { channel = c; from = (channel r c).from; sent = at cut (channel r c).from; received = at cut (channel r c).to }

-- the span has its channel's sender
abbrev pub OfChannel : Run → Span → Type 0
OfChannel r span = span.from ≡ (channel r span.channel).from

-- and all its states up to the cut, which are at most 512
pub record SenderThere (r : Run) (span : Span) : Type 0 where
  pub own : OfChannel r span
  pub state : IsState r span.from span.sent
  pub few : span.sent ≤ 512
