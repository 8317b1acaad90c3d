use Rattle.judged.specs.Pairing.{mark_at}
use Rattle.pairing.proofs.mark_at.Goals as goal

pub returns-then-sends : goal.returns-then-sends
unfolding mark_at
returns-then-sends c = simp c.if-sends.true

pub returns : goal.returns
unfolding mark_at
returns c = simp c.if-sends.false
