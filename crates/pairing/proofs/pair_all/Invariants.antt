-- `pair_all` meets its contract. The invariant of its loop: the processes below p are paired.
use mathlib.Core.Path.{◌≡◌}
use Prim.Native.Nat.{◌≤◌}
use lib.ListN.{length}
use Rattle.run.specs.Said.{run_in}
use Rattle.run.specs.Index.{Listed}
use Rattle.judged.specs.Pairing.{PairingTables, ProcessesPaired}
use Rattle.pairing.proofs.pair_all.Given as goal

abbrev pub invariant-loop-p : goal.invariant-loop-p
invariant-loop-p l = (l.n ≤ 8) × (length l.bad ≡ 8) × PairingTables l.marks l.hints × Listed l.run l.index × ProcessesPaired (run_in l.run) l.p l.bad l.index
