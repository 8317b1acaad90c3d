use native.Mathlib.Omega.{arith}
use Rattle.run.specs.Index.{place_at}
use Rattle.run.proofs.index.place_of.Goals as goal

pub overflow_cast-result : goal.overflow_cast-result
overflow_cast-result c = omega (arith, c.shared_slice_known-1.given (place_at c.args.p c.args.k))
