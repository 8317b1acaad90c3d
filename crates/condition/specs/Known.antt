-- What an accepted condition is known to obey beside the run's head: words of inner contracts; the promises don't use them.
use Rattle.std.specs.Prelude.{◌≡◌, ◌⊎◌, List, ℕ, ◌+◌, ◌≤◌, ◌<◌, length, get_or}
use Rattle.record.specs.Layout.{value_count}
use Rattle.model.specs.Clause as M
use Rattle.record.specs.Record.{kind_at, head_of}
use Rattle.record.specs.declared.Head.{Head}
use Rattle.condition.specs.declared.Local.{Local}
use Rattle.condition.specs.declared.Test.{Test}
use Rattle.condition.specs.Clauses.{local_at, test_at, clause_of, held_at}
use Rattle.condition.specs.Read.{clauses_in}

pub record LocalKnown (h : Head) (l : Local) : Type 0 where
  pub process : l.process < h.processes
  pub value : l.value < value_count
  pub some : 1 ≤ l.comparison
  pub known : l.comparison ≤ 4

pub record TestKnown (h : Head) (t : Test) : Type 0 where
  pub channel : t.channel < h.channels
  pub some : 1 ≤ t.test
  pub linear : t.test ≤ 7

-- a clause's record is there to its end: 14 bytes of a local clause, 12 of a channel clause
pub record Whole (s : List ℕ) (at : ℕ) : Type 0 where
  pub body : at + 12 ≤ length s
  pub local : kind_at s at ≡ 17 → at + 14 ≤ length s

-- the clause whose record stands at a place
pub record ClauseKnown (s : List ℕ) (h : Head) (at : ℕ) : Type 0 where
  pub whole : Whole s at
  pub kind : (kind_at s at ≡ 17) ⊎ (kind_at s at ≡ 18)
  pub local : kind_at s at ≡ 17 → LocalKnown h (local_at s at)
  pub channel : kind_at s at ≡ 18 → TestKnown h (test_at s at)

-- the condition whose clauses stand at these places
pub record ConditionKnown (s : List ℕ) (h : Head) (qs : List ℕ) : Type 0 where
  pub short : length s ≤ 65535
  pub few : length qs ≤ 32
  pub clauses : (k : ℕ) → k < length qs → ClauseKnown s h (get_or qs k 0)

-- the clauses of a condition beside a run, and the one whose record stands at a place
abbrev pub clauses_for : List ℕ → List ℕ → List M.Clause
clauses_for s c = clauses_in c (head_of s)

abbrev pub clause_at : List ℕ → ℕ → M.Clause
clause_at s at = clause_of (held_at s at)
