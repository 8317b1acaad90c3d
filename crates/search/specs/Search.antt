-- What the search is given, and what it gives.
use Rattle.std.specs.Prelude.{◌≡◌, Bool, true, false, not, Option, Some, None, ℕ, ◌≤◌, ◌<◌, T, ℤ, length}
use mathlib.Core.List.{List, Memᴰ}
use Rattle.model.specs.declared.Mover.TheVariants.{Sender, Receiver}
use Rattle.model.specs.Run.{Run, processes, channel}
use Rattle.model.specs.Cut.{at, IsCut, in_transit}
use Rattle.model.specs.Clocks.{ByClock}
use Rattle.model.specs.Clause.{Comparison, Test, mover, Clause, holds, Satisfies, First}
use Rattle.model.specs.Clause.Clause.{local, on}
use Rattle.record.specs.Record.{head_of}
use Rattle.run.specs.Index.{clock_in, IndexHolds}
use Rattle.run.specs.Said.{run_in}
use Rattle.condition.specs.Known.{ConditionKnown}
use Rattle.kept.specs.Kept.{EachCounted}
use Rattle.search.specs.declared.Outcome.{Outcome}
use Rattle.search.specs.declared.Outcome.TheVariants as A

-- an accepted run with its index, and the places of clauses that are known beside its head
pub record Given (s c ix qs : List ℕ) : Type 0 where
  pub index : IndexHolds s ix
  pub known : ConditionKnown c (head_of s) qs

-- one of the run's cuts, and a row that counts what is in transit there
pub record Counted (s cut counts : List ℕ) : Type 0 where
  pub is_cut : IsCut (run_in s) cut
  pub each : EachCounted (run_in s) (in_transit (run_in s) cut) counts

-- the end of a channel that has to move where so many messages are on it
pub data EndNamed (r : Run) (c : ℕ) (t : Test) (n : ℕ) : Option ℕ → Type 0 where
  sender : (channel r c).from < processes r → mover t n ≡ Sender → EndNamed r c t n (Some (channel r c).from)
  receiver : (channel r c).to < processes r → mover t n ≡ Receiver → EndNamed r c t n (Some (channel r c).to)

-- a clause holds at the cut, or is false and names who has to move
pub data Tested (r : Run) (cut : List ℕ) (k : Clause) : Option ℕ → Type 0 where
  holding : T (holds r cut k) → Tested r cut k None
  local_false : (i v : ℕ) (o : Comparison) (x : ℤ) → k ≡ local i v o x → i < processes r → ¬ T (holds r cut k) → Tested r cut k (Some i)
  channel_false : (c : ℕ) (t : Test) (b : Option ℕ) → k ≡ on c t → ¬ T (holds r cut k) → EndNamed r c t (length (in_transit r cut c)) b → Tested r cut k b

-- a clause is local, or else of a channel
abbrev pub is_local : Clause → Bool
is_local (local i v o x) = true
is_local (on c t) = false

-- a clause of the kind that is asked for is tested; any other names nobody
pub data Tried (r : Run) (cut : List ℕ) (k : Clause) (locals : Bool) (b : Option ℕ) : Type 0 where
  tested : is_local k ≡ locals → Tested r cut k b → Tried r cut k locals b
  passed : is_local k ≡ not locals → b ≡ None → Tried r cut k locals b

-- all clauses of the kind hold, or one is false and names who has to move
pub data KindTested (r : Run) (cond : List Clause) (cut : List ℕ) (locals : Bool) : Option ℕ → Type 0 where
  all : ((k : Clause) → Memᴰ k cond → is_local k ≡ locals → T (holds r cut k)) → KindTested r cond cut locals None
  one : (k : Clause) → Memᴰ k cond → (p : ℕ) → Tested r cut k (Some p) → KindTested r cond cut locals (Some p)

-- at or below every satisfying cut
abbrev pub Lowest : Run → List Clause → List ℕ → Type 0
Lowest r cond cut = (d : List ℕ) → Satisfies r cond d → (i : ℕ) → at cut i ≤ at d i

-- a cut of the run that is
pub record LowestCut (r : Run) (cond : List Clause) (cut : List ℕ) : Type 0 where
  pub is_cut : IsCut r cut
  pub lowest : Lowest r cond cut

-- every satisfying cut is further on at process p
abbrev pub MustMove : Run → List Clause → List ℕ → ℕ → Type 0
MustMove r cond cut p = (d : List ℕ) → Satisfies r cond d → at cut p < at d p

-- of the clauses that are asked: nobody has to move where they hold and the clocks agree
pub data Moved (r : Run) (cond : List Clause) (ix cut : List ℕ) (asked : Clause → Bool) : Option ℕ → Type 0 where
  nobody : ((k : Clause) → Memᴰ k cond → asked k ≡ true → T (holds r cut k)) → ByClock r (clock_in ix) cut → Moved r cond ix cut asked None
  process : (p : ℕ) → p < processes r → MustMove r cond cut p → Moved r cond ix cut asked (Some p)

abbrev pub every : Clause → Bool
every k = true

-- found with the first cut, or none satisfies
pub data Searched (r : Run) (cond : List Clause) (cut : List ℕ) : Outcome → Type 0 where
  found : First r cond cut → Searched r cond cut A.Found
  none : ((d : List ℕ) → ¬ Satisfies r cond d) → Searched r cond cut A.NoCut
