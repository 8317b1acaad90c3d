use native.Mathlib.Omega.{arith}
use lib.ListN.{length-set}
use Rattle.run.proofs.index.keep.Goals as goal

pub bounds-index-row-2 : goal.bounds-index-row-2
bounds-index-row-2 c = let r = c.requires in simp length-set (omega (arith, r.long, r.process))
