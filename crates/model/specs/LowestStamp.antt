-- The lowest stamp of some messages.
use Rattle.std.specs.Prelude.{◌≡◌, ℤ, T}
use mathlib.Core.List.{List, Memᴰ}
use Rattle.std.specs.Int.Signed.{le_z}
use Rattle.model.specs.declared.Message.{Message}

-- one of them has it, and none has a lower one
pub record LowestStamp (ms : List Message) (x : ℤ) : Type 0 where
  pub held : (m : Message) × Memᴰ m ms × (m.stamp ≡ x)
  pub least : (m : Message) → Memᴰ m ms → T (le_z x m.stamp)
