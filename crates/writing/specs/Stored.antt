-- Bytes put into a lent buffer after those that were put before.
use Rattle.std.specs.Prelude.{◌≡◌, List, ℕ, ◌+◌, ◌<◌, min, length}
use Rattle.std.proofs.lemmas.List.Edits.{sets}
use Rattle.writing.specs.declared.Lines.{Lines}

-- the largest number, which no buffer is as long as
abbrev pub last : ℕ
last = 18446744073709551615

-- what is past the buffer isn't stored, and where the bytes end is told in any case
pub record Put (bytes : List ℕ) (lines lines' : Lines) : Type 0 where
  pub same_reference : lines'.buffer.ghost_name ≡ lines.buffer.ghost_name
  pub short : length lines.buffer.now < last
  pub end : lines'.at ≡ min (lines.at + length bytes) last
  pub stored : lines'.buffer.now ≡ sets lines.buffer.now lines.at bytes
