-- `pair_row` meets its contract. The invariant of its loop: the states ahead of k are clear and entered, and the marks are above what they carry.
use Rattle.run.specs.Said.{run_in}
use Rattle.judged.specs.Pairing.{PairingAt}
use Rattle.judged.proofs.Partners.{Partway}
use Rattle.pairing.proofs.pair_row.Given as goal

abbrev pub invariant-loop-k : goal.invariant-loop-k
invariant-loop-k l = PairingAt l.run l.index l.marks l.hints l.p l.k × Partway (run_in l.run) l.p l.k l.initial.index l.index
