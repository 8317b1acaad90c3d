use native.Mathlib.Omega.{arith}
use mathlib.Core.Path.{◌≡◌, ap}
use Prim.Native.Nat.{ℕ, ◌+◌, ◌-◌}
use lib.ListN.{take, drop}
use Rattle.run.specs.Index.{clock_row}
use Rattle.run.proofs.index.clock_of.Goals as goal

eight : (n : ℕ) → n + 8 - n ≡ 8
eight n = omega arith

pub returns : goal.returns
returns c = let a = c.args in ap (λ n. take n (drop (clock_row a.p a.k) a.index.now)) (eight (clock_row a.p a.k))
