-- A state's clock as a part of the index.
use mathlib.Core.Path.{◌≡◌, ◌∙◌}
use mathlib.Core.List.{List}
use Prim.Native.Nat.{ℕ, ◌<◌}
use native.Mathlib.Omega.{arith}
use lib.ListN.{length, get_or, take, drop, length-drop}
use lib.Seq.{length-take-le, get_or-take, get_or-drop}
use Rattle.run.specs.Index.{clock_row, clock_in, HasSlot, index_size}

module _ (ix : List ℕ) (long : length ix ≡ index_size) (p k : ℕ) (has : HasSlot p k) where
  pub clock_long : length (take 8 (drop (clock_row p k) ix)) ≡ 8
  clock_long = length-take-le 8 (drop (clock_row p k) ix) (rw length-drop (omega (arith, long, has.process, has.counted, has.few)))

  pub clock_part : (i : ℕ) → i < 8 → get_or (take 8 (drop (clock_row p k) ix)) i 0 ≡ clock_in ix p k i
  clock_part i h = get_or-take 8 (drop (clock_row p k) ix) i 0 h ∙ get_or-drop (clock_row p k) ix i 0
