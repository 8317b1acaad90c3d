-- What a clause record says: as code holds it, and as a clause of the model.
use Rattle.std.specs.Prelude.{cond, List, map, ℕ, ◌+◌, eqb}
use Rattle.model.specs.Clause as M
use Rattle.model.specs.Clause.Comparison.{equal, other, at_most, at_least}
use Rattle.model.specs.Clause.Test.{count_at_most, count_at_least, count_is, stamp_is, no_stamp_is, every_at_least, some_at_most, count_odd, count_other}
use Rattle.model.specs.Clause.Clause.{local, on}
use Rattle.record.specs.Bytes.{u16_at, u32_at, i32_at, signed}
use Rattle.record.specs.Record.{kind_at}
use Rattle.condition.specs.declared.Local.{Local}
use Rattle.condition.specs.declared.Test.{Test}
use Rattle.condition.specs.declared.Clause.{Clause}
use Rattle.condition.specs.declared.Clause.TheVariants as C

-- comparisons 1 to 4; a record with another number is never accepted
unfoldable pub comparison_of : ℕ → M.Comparison
comparison_of n =
    cond (eqb n 1) equal
    (cond (eqb n 2) other
    (cond (eqb n 3) at_most
    at_least))

-- tests 1 to 9: c is unsigned, x signed; a record with another number is never accepted
unfoldable pub test_of : ℕ → ℕ → M.Test
test_of n operand =
    cond (eqb n 1) (count_at_most operand)
    (cond (eqb n 2) (count_at_least operand)
    (cond (eqb n 3) (count_is operand)
    (cond (eqb n 4) (stamp_is (signed operand))
    (cond (eqb n 5) (no_stamp_is (signed operand))
    (cond (eqb n 6) (every_at_least (signed operand))
    (cond (eqb n 7) (some_at_most (signed operand))
    (cond (eqb n 8) count_odd
    (cond (eqb n 9) (count_other operand)
    count_odd))))))))

-- what a clause as code holds it means
abbrev pub clause_of : Clause → M.Clause
clause_of (C.Local l) = local l.process l.value (comparison_of l.comparison) l.constant
clause_of (C.Channel t) = on t.channel (test_of t.test t.operand)

unfoldable pub local_at : List ℕ → ℕ → Local
local_at s at = record { process = u16_at s (at + 4); value = u16_at s (at + 6); comparison = u16_at s (at + 8); constant = i32_at s (at + 10) }

unfoldable pub test_at : List ℕ → ℕ → Test
test_at s at = record { channel = u16_at s (at + 4); test = u16_at s (at + 6); operand = u32_at s (at + 8) }

-- the record at a place, of kind 17 or 18
unfoldable pub held_at : List ℕ → ℕ → Clause
held_at s at = cond (eqb (kind_at s at) 17) (C.Local (local_at s at)) (C.Channel (test_at s at))

-- the clauses whose records stand at these places
unfoldable pub clauses_of : List ℕ → List ℕ → List M.Clause
clauses_of s qs = map (λ at. clause_of (held_at s at)) qs
