-- Words of the contracts of the pass's inner functions; the promises don't use them.
use Rattle.std.specs.Prelude.{◌≡◌, List, ℕ, ◌+◌, ◌≤◌, ◌<◌, length, get_or, set, Result, Ok}
use Rattle.record.specs.Pass.{Read}
use Rattle.record.specs.Refusal.{passed, and_then}
use Rattle.record.specs.declared.Refusal.{Refusal}
use Rattle.condition.specs.declared.Item.{Item}
use Rattle.condition.specs.declared.Item.TheVariants as I
use Rattle.condition.specs.Items.{check_step}

-- the step accepts what stands at the place
pub record Taken (s : List ℕ) (at : ℕ) : Type 0 where
  pub owed : ℕ
  pub opening : check_step s at owed ≡ passed

-- the pass's answer: how many clauses
abbrev pub reading : Read → Result ℕ Refusal
reading read = and_then read (λ qs. Ok (length qs))

-- a clause is owed, and the row has room for its place
abbrev pub ClauseRoomy : Item → ℕ → ℕ → Type 0
ClauseRoomy (I.Head clauses) owed count = Unit {0}
ClauseRoomy (I.Clause c) owed count = (1 ≤ owed) × (count < 32)
ClauseRoomy I.End owed count = Unit {0}

-- a clause's place is kept and counted
abbrev pub ClauseNoted : Item → ℕ → ℕ → List ℕ → ℕ → List ℕ → Type 0
ClauseNoted (I.Head clauses) at n ps n' ps' = (n' ≡ n) × (ps' ≡ ps)
ClauseNoted (I.Clause c) at n ps n' ps' = (n' ≡ n + 1) × (ps' ≡ set ps n at)
ClauseNoted I.End at n ps n' ps' = (n' ≡ n) × (ps' ≡ ps)

-- what the pass leaves: its answer, and of an accepted condition the place of each clause
pub record ConditionPassed (v : Read) (r : Result ℕ Refusal) (places : List ℕ) : Type 0 where
  pub answer : r ≡ reading v
  pub placed : (qs : List ℕ) → v ≡ Ok qs → (k : ℕ) → k < length qs → get_or places k 0 ≡ get_or qs k 0
