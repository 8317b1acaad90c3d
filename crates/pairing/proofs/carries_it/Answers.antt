use mathlib.Core.Path.{refl}
use mathlib.Core.Logic.{inl, inr}
use Rattle.judged.proofs.Pairs.{carries_start, carries_internal}
use Rattle.judged.specs.Pairing.{which, carries}
use Rattle.pairing.proofs.carries_it.Goals as goal

pub returns-in-Start : goal.returns-in-Start
returns-in-Start c = elim c.in-Start.is [ inl e ↦ rw e (carries_start _ _) | inr e ↦ rw e (carries_internal _ _) ]

pub returns-then-sends : goal.returns-then-sends
unfolding carries which
returns-then-sends c = rw (c.in-Send.is, c.if-sends.true) c.is_same.ensures

pub returns-else-sends : goal.returns-else-sends
unfolding carries which
returns-else-sends c = rw (c.in-Send.is, c.if-sends.false) refl

pub returns-then-not-sends : goal.returns-then-not-sends
unfolding carries which
returns-then-not-sends c = rw (c.in-Receive.is, c.if-not-sends.true) c.is_same-then-not-sends.ensures

pub returns-else-not-sends : goal.returns-else-not-sends
unfolding carries which
returns-else-not-sends c = rw (c.in-Receive.is, c.if-not-sends.false) refl
