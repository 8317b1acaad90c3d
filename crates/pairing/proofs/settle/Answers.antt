-- `settle` meets its contract: at each way out, what the event is, and what was found of a message.
use mathlib.Core.Path.{refl, sym, ◌∙◌}
use mathlib.Core.Logic.{inl, inr}
use Rattle.judged.proofs.Pairs.{settled_quiet, settled_send, settled_repeat, settled_receive}
use Rattle.run.proofs.Listed.{sides, channel_few}
use Rattle.pairing.proofs.settle.Goals as goal

pub repeated-requires : goal.repeated-requires
repeated-requires c =
    let r = c.requires in
    let read = r.0.listed.read in
    (r.0.listed, r.1, record { long = r.0.tables.marked; channel = channel_few _ read _ ((sides _ read).sender _ _ _ (sym c.in-Send.ensures)).0; rising = r.0.sent })

pub repeated-requires-in-Receive : goal.repeated-requires-in-Receive
repeated-requires-in-Receive c =
    let r = c.requires in
    let read = r.0.listed.read in
    (r.0.listed, r.1, record { long = r.0.tables.marked; channel = channel_few _ read _ ((sides _ read).receiver _ _ _ (sym c.in-Receive.ensures)).0; rising = r.0.received })

pub returns-in-Start-clause-settled : goal.returns-in-Start-clause-settled
returns-in-Start-clause-settled c =
    let same = sym c.event_at.ensures in
    elim c.in-Start.is [
      | inl e ↦ settled_quiet c.requires.0 _ (same ∙ e) refl refl
      | inr e ↦ settled_quiet c.requires.0 _ (same ∙ e) refl refl
    ]

pub returns-in-Send-clause-settled : goal.returns-in-Send-clause-settled
returns-in-Send-clause-settled c = settled_send c.requires.0 _ (sym c.in-Send.ensures) _ _ c.repeated.ensures

pub returns-then-not-repeated-clause-settled : goal.returns-then-not-repeated-clause-settled
returns-then-not-repeated-clause-settled c = settled_receive c.requires.0 _ (sym c.in-Receive.ensures) _ _ _ c.if-not-repeated.ensures c.enter.ensures.received

pub returns-else-not-repeated-clause-settled : goal.returns-else-not-repeated-clause-settled
returns-else-not-repeated-clause-settled c = rw c.if-not-repeated.false (settled_repeat c.requires.0 _ (sym c.in-Receive.ensures) _ c.if-not-repeated.ensures)
