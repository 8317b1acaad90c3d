-- What contracts see of what a cut is sought by: the run's bytes and the index's numbers, the condition's bytes and the places of the clauses.
use Rattle.std.specs.Prelude.{List, ℕ}

pub record SoughtSeen : Type 0 where
  pub run : List ℕ
  pub index : List ℕ
  pub cond : List ℕ
  pub clauses : List ℕ
