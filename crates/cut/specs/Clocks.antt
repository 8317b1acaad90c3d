-- The clock test at a cut: the first process that is behind another's clock.
use Rattle.std.specs.Prelude.{◌≡◌, ◌↔◌, Bool, true, not, cond, ◌&&◌, List, Option, Some, None, ℕ, zero, suc, ◌≤◌, ◌<◌, eqb, leb, length}
use Rattle.model.specs.Run.{Run}
use Rattle.model.specs.Cut.{at, IsCut, Consistent}
use Rattle.model.specs.Clocks.{Clocks}
use Rattle.run.specs.Index.{clock_in}

-- process i, if it is another than j and behind the clock of j's chosen state
unfoldable pub if_behind : (ℕ → ℕ → ℕ → ℕ) → List ℕ → ℕ → ℕ → Option ℕ
if_behind clock cut j i = cond (not (eqb i j) && leb (at cut i) (clock j (at cut j) i)) (Some i) None

abbrev pub or_next : Option ℕ → Option ℕ → Option ℕ
or_next None next = next
or_next (Some i) next = Some i

-- the first that f names at k, k + 1, .. : n of them
unfoldable pub first_from : (ℕ → Option ℕ) → ℕ → ℕ → Option ℕ
first_from f zero k = None
first_from f (suc n) k = or_next (f k) (first_from f n (suc k))

-- the first process that is behind j's clock
unfoldable pub behind_of : (ℕ → ℕ → ℕ → ℕ) → List ℕ → ℕ → Option ℕ
behind_of clock cut j = first_from (if_behind clock cut j) (length cut) 0

-- of the processes in order, the first whose clock somebody is behind: who is
unfoldable pub too_low : (ℕ → ℕ → ℕ → ℕ) → List ℕ → Option ℕ
too_low clock cut = first_from (behind_of clock cut) (length cut) 0

-- a cut of at most eight processes whose numbers have entries in a table
pub record InTable (cut : List ℕ) : Type 0 where
  pub few : length cut ≤ 8
  pub counted : (j : ℕ) → j < length cut → 1 ≤ at cut j
  pub there : (j : ℕ) → j < length cut → at cut j ≤ 512

-- the answer for every run whose clocks the index holds and whose cut it is
abbrev pub ConsistentIs : List ℕ → List ℕ → Bool → Type 0
ConsistentIs ix cut answer = (r : Run) → Clocks r (clock_in ix) → IsCut r cut → (answer ≡ true) ↔ Consistent r cut
