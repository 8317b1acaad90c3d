-- None of the processes before i is behind j's clock.
use mathlib.Core.Path.{◌≡◌}
use Prim.Native.Nat.{ℕ, ◌<◌}
use Rattle.std.specs.Prelude.{None}
use Rattle.run.specs.Index.{clock_in}
use Rattle.cut.specs.Clocks.{if_behind}
use Rattle.cut.proofs.clocks.behind.Given as goal

abbrev pub invariant-loop-i : goal.invariant-loop-i
invariant-loop-i l = (k : ℕ) → k < l.i → if_behind (clock_in l.index) l.cut l.j k ≡ None
