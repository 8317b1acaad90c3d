-- What a state sends or receives on a channel, and up to where a message is received.
use mathlib.Core.Path.{◌≡◌, refl, sym, ap, ◌∙◌}
use mathlib.Core.Logic.{◌≢◌}
use mathlib.Core.Bool.{Bool, true, false, cond}
use mathlib.Core.Option.{Option, some, none}
use Prim.Native.Nat.{ℕ, ◌≤◌}
use borrow.Author.Tests.{eqb-true}
use lib.Dec.{T, eqb}
use Rattle.model.proofs.Numbers.{never}
use Rattle.model.specs.declared.Message.{Message}
use Rattle.model.specs.declared.Event.{Event}
use Rattle.model.specs.declared.Event.TheVariants.{Start, Internal, Send, Receive}
use Rattle.model.specs.Run.{Run, into, channel, sending, receiving, paired, Paired}
use Rattle.model.specs.Cut.{on_channel, sends, some_up_to}
use Rattle.model.specs.Sent.{receives}
use Rattle.model.proofs.Lists.{eq→eqb, some_at, at_some}

pub sending_send : (e : Event) (m : Message) → sending e ≡ some m → e ≡ Send m
sending_send Start m h = cc
sending_send Internal m h = cc
sending_send (Send n) m h = cc
sending_send (Receive n) m h = cc

pub receiving_receive : (e : Event) (m : Message) → receiving e ≡ some m → e ≡ Receive m
receiving_receive Start m h = cc
receiving_receive Internal m h = cc
receiving_receive (Send n) m h = cc
receiving_receive (Receive n) m h = cc

-- an event that receives nothing isn't a receive
pub no_receive : {v : Event} (e : Event) → v ≡ e → receiving e ≡ none → (m : Message) → v ≢ Receive m
no_receive e g n m h = let y = ap receiving (sym g ∙ h) in never (cc)

on_some : (c : ℕ) (o : Option Message) (m : Message) → on_channel c o ≡ some m → (o ≡ some m) × (m.channel ≡ c)
on_some c none m h = never (cc)
on_some c (some n) m h = go (eqb n.channel c) refl h
  where
    go : (b : Bool) → eqb n.channel c ≡ b → cond b (some n) none ≡ some m → (some n ≡ some m) × (m.channel ≡ c)
    go true e h = let same : n ≡ m = cc in (h, ap (λ x. x.channel) (sym same) ∙ eqb-true n.channel c e)
    go false e h = never (cc)

some_on : (c : ℕ) (m : Message) → m.channel ≡ c → on_channel c (some m) ≡ some m
some_on c m e = go (eqb m.channel c) (eq→eqb m.channel c e)
  where
    go : (b : Bool) → T b → cond b (some m) none ≡ some m
    go true t = refl
    go false t = absurd t

module _ (r : Run) (c : ℕ) where
  pub sends_send : (k : ℕ) (m : Message) → sends r c k ≡ some m → (into r (channel r c).from k ≡ Send m) × (m.channel ≡ c)
  unfolding sends
  sends_send k m h = let (a, b) = on_some c (sending (into r (channel r c).from k)) m h in (sending_send _ m a, b)

  pub send_sends : (k : ℕ) (m : Message) → into r (channel r c).from k ≡ Send m → m.channel ≡ c → sends r c k ≡ some m
  unfolding sends
  send_sends k m e g = ap (λ v. on_channel c (sending v)) e ∙ some_on c m g

  pub receives_receive : (l : ℕ) (m : Message) → receives r c l ≡ some m → (into r (channel r c).to l ≡ Receive m) × (m.channel ≡ c)
  unfolding receives
  receives_receive l m h = let (a, b) = on_some c (receiving (into r (channel r c).to l)) m h in (receiving_receive _ m a, b)

  pub receive_receives : (l : ℕ) (m : Message) → into r (channel r c).to l ≡ Receive m → m.channel ≡ c → receives r c l ≡ some m
  unfolding receives
  receive_receives l m e g = ap (λ v. on_channel c (receiving v)) e ∙ some_on c m g

-- the message sent into state k of process i is received up to state b of process j
abbrev pub arrived : Run → ℕ → ℕ → ℕ → ℕ → Bool
arrived r i k j b = some_up_to (paired r i k j) b

module _ (r : Run) (i k j : ℕ) where
  -- received up to state b: at one of states 1 to b
  pub arrived_at : (b : ℕ) → T (arrived r i k j b) → (l : ℕ) × (1 ≤ l) × (l ≤ b) × Paired r i k j l
  arrived_at b t = let (l, p, q, u) = some_at (paired r i k j) b t in (l, p, q, record { same = u })

  pub at_arrived : (b l : ℕ) → 1 ≤ l → l ≤ b → Paired r i k j l → T (arrived r i k j b)
  at_arrived b l p q w = at_some (paired r i k j) b l p q w.same
