-- Of the processes before j, nobody is behind the clock of any.
use mathlib.Core.Path.{◌≡◌}
use Prim.Native.Nat.{ℕ, ◌<◌}
use Rattle.std.specs.Prelude.{None}
use Rattle.run.specs.Index.{clock_in}
use Rattle.cut.specs.Clocks.{behind_of}
use Rattle.cut.proofs.clocks.too_low.Given as goal

abbrev pub invariant-loop-j : goal.invariant-loop-j
invariant-loop-j l = (i : ℕ) → i < l.j → behind_of (clock_in l.index) l.cut i ≡ None
