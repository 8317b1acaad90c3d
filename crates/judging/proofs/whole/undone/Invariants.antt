-- `undone` meets its contract. The invariant of its loop: the first p processes have their entry.
use mathlib.Core.Path.{◌≡◌}
use Prim.Native.Nat.{ℕ, ◌<◌}
use lib.ListN.{length, get_or}
use Rattle.std.specs.Prelude.{None}
use Rattle.judged.specs.Inner.{next_of}
use Rattle.judging.proofs.whole.undone.Given as goal

abbrev pub invariant-loop-p : goal.invariant-loop-p
invariant-loop-p l = (length l.bad ≡ 8) × ((q : ℕ) → q < l.p → get_or l.bad q None ≡ next_of (get_or l.done q 0) (get_or l.index q 0))
