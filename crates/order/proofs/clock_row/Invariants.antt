-- `clock_row` meets its contract. The invariant of its loop: the first i numbers of the clock are written, and nothing else.
use mathlib.Core.Path.{◌≡◌}
use lib.ListN.{length}
use Rattle.run.specs.Index.{index_size}
use Rattle.judged.specs.Order.{Written}
use Rattle.order.proofs.clock_row.Given as goal

abbrev pub invariant-loop-i : goal.invariant-loop-i
invariant-loop-i l = (length l.index ≡ index_size) × Written l.i l.p l.k l.ahead l.initial.index l.index
