use mathlib.Core.Path.{◌≡◌, refl}
use mathlib.Core.Bool.{Bool, true, false, cond}
use mathlib.Core.Option.{some, none}
use Rattle.std.specs.Bool.{then_some}
use Rattle.model.specs.declared.Event.{Event}
use Rattle.model.specs.declared.Event.TheVariants.{Start, Internal, Send, Receive}
use Rattle.model.specs.declared.Message.{Message}
use Rattle.model.specs.Run.{sending}
use Rattle.transit.specs.Waiting.{as_held}
use Rattle.transit.proofs.sender.sent_on.Goals as goal

held_if : (t : Bool) (m : Message) → then_some t m ≡ as_held (cond t (some m) none)
unfolding as_held
held_if true m = refl
held_if false m = refl

not_sent : (e : Event) → ((m : Message) → e ≡ Send m → ⊥) → sending e ≡ none
not_sent Start n = refl
not_sent Internal n = refl
not_sent (Send m) n = absurd (n m refl)
not_sent (Receive m) n = refl

pub returns-in-Send : goal.returns-in-Send
returns-in-Send c = rw (c.then_some.ensures, c.in-Send.is) (held_if _ _)

pub returns-in_default : goal.returns-in_default
unfolding as_held
returns-in_default c = rw (not_sent _ c.in_default.not-Send) refl
