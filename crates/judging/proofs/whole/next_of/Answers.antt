use borrow.Author.Tests.{lt-ltb, le-ltb}
use Rattle.judged.specs.Inner.{next_of}
use Rattle.judging.proofs.whole.next_of.Goals as goal

pub returns-then-done-count : goal.returns-then-done-count
unfolding next_of
returns-then-done-count c = simp (lt-ltb _ _ c.if-done-count.true)

pub returns-else-done-count : goal.returns-else-done-count
unfolding next_of
returns-else-done-count c = simp (le-ltb _ _ c.if-done-count.false)
