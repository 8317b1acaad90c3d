-- What contracts see of an accepted run with its index: the file's bytes and the index's numbers.
use Rattle.std.specs.Prelude.{List, ℕ}

pub record Seen : Type 0 where
  pub run : List ℕ
  pub index : List ℕ
