-- The last satisfying cut.
use Rattle.std.specs.Prelude.{List, ℕ, ◌≤◌}
use Rattle.model.specs.Run.{Run}
use Rattle.model.specs.Cut.{at}
use Rattle.model.specs.Clause.{Clause, Satisfies}

-- at or above every satisfying cut in each place
pub record Last (r : Run) (cond : List Clause) (cut : List ℕ) : Type 0 where
  pub satisfies : Satisfies r cond cut
  pub most : (d : List ℕ) → Satisfies r cond d → (i : ℕ) → at d i ≤ at cut i
