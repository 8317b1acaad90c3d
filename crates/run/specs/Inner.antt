-- Words of the contracts of the pass's inner functions; the promises don't use them.
use Rattle.std.specs.Prelude.{◌≡◌, List, ℕ, ◌<◌, get_or, Result, Ok}
use Rattle.record.specs.Pass.{Read}
use Rattle.record.specs.Refusal.{and_then}
use Rattle.record.specs.declared.Refusal.{Refusal}
use Rattle.record.specs.declared.Head.{Head}
use Rattle.record.specs.Record.{head_of}
use Rattle.record.specs.declared.Record.{Record}
use Rattle.record.specs.declared.Record.TheVariants as R
use Rattle.run.specs.Index.{Indexed, with_state, Fresh, partners_part}

-- a state's process has a row, and the row has room
abbrev pub StateRoomy : Record → List ℕ → Type 0
StateRoomy (R.Head h) ix = Unit {0}
StateRoomy (R.Channel l) ix = Unit {0}
StateRoomy (R.State f) ix = (f.process < 8) × (get_or ix f.process 0 < 512)
StateRoomy R.End ix = Unit {0}

-- a state is kept in its process's row
abbrev pub StateNoted : Record → ℕ → List ℕ → List ℕ → Type 0
StateNoted (R.Head h) at ix ix' = ix' ≡ ix
StateNoted (R.Channel l) at ix ix' = ix' ≡ ix
StateNoted (R.State f) at ix ix' = ix' ≡ with_state ix f.process at
StateNoted R.End at ix ix' = ix' ≡ ix

-- the pass's answer
abbrev pub reading : List ℕ → Read → Result Head Refusal
reading s read = and_then read (λ qs. Ok (head_of s))

-- what the pass leaves: its answer, and of an accepted run the states' part of the index
pub record RunPassed (s : List ℕ) (v : Read) (r : Result Head Refusal) (ix : List ℕ) : Type 0 where
  pub answer : r ≡ reading s v
  pub index : (qs : List ℕ) → v ≡ Ok qs → Indexed s qs ix
  pub fresh : (qs : List ℕ) → v ≡ Ok qs → Fresh partners_part ix
