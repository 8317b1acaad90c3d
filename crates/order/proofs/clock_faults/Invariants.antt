-- `clock_faults` meets its contract. The invariant of its loop: the processes below p have their entry.
use mathlib.Core.Path.{◌≡◌}
use Prim.Native.Nat.{◌≤◌}
use lib.ListN.{length}
use Rattle.judged.specs.Judged.{WrongClock}
use Rattle.judged.specs.Firsts.{FirstsTo}
use Rattle.order.proofs.clock_faults.Given as goal

abbrev pub invariant-loop-p : goal.invariant-loop-p
invariant-loop-p l = (l.n ≤ 8) × (length l.bad ≡ 8) × FirstsTo l.run (WrongClock l.run) l.p l.bad
