-- What the search over raw bytes says, and what it leaves in the lent places.
use Rattle.std.specs.Prelude.{◌≡◌, ◌≢◌, List, ℕ, ◌≤◌, ◌<◌, ℤ, Result, Ok, Err, length}
use Rattle.model.specs.Clause.{Satisfies, First}
use Rattle.record.specs.Record.{head_of}
use Rattle.record.specs.Refusal.{refusal}
use Rattle.record.specs.declared.reasons.Reason.TheVariants.{NoRoom}
use Rattle.record.specs.declared.File.TheVariants.{Run}
use Rattle.record.specs.declared.Refusal.{Refusal}
use Rattle.run.specs.Said.{run_in}
use Rattle.judged.specs.Judged.{Judged}
use Rattle.judged.specs.Accepted.{RunAccepted}
use Rattle.condition.specs.Read.{read_of, clauses_in}
use Rattle.condition.specs.Accepted.{ConditionAccepted}
use Rattle.cut.specs.Listing.{on_each, Room, Wrote, WroteLowest}
use Rattle.search.specs.declared.Outcome.{Outcome}
use Rattle.search.specs.declared.Outcome.TheVariants as O

-- run and condition are both accepted
pub record Both (s c : List ℕ) : Type 0 where
  pub run : RunAccepted s
  pub cond : ConditionAccepted s c

-- in this order: the run is refused, the condition is, the lent places are too few; none, found
pub data Answered (s c lent lent' : List ℕ) : Result Outcome Refusal → Type 0 where
  run_refused : (x : Refusal) → Judged s (Err x) → lent' ≡ lent → Answered s c lent lent' (Err x)
  cond_refused : (x : Refusal) → RunAccepted s → read_of c (head_of s) ≡ Err x → lent' ≡ lent → Answered s c lent lent' (Err x)
  few : Both s c → length lent < (head_of s).processes → lent' ≡ lent → Answered s c lent lent' (Err (refusal Run NoRoom 0))
  none : Both s c → (head_of s).processes ≤ length lent → ((d : List ℕ) → ¬ Satisfies (run_in s) (clauses_in c (head_of s)) d) → lent' ≡ lent → Answered s c lent lent' (Ok O.NoCut)
  found : Both s c → (head_of s).processes ≤ length lent → (cut : List ℕ) → First (run_in s) (clauses_in c (head_of s)) cut → Wrote cut lent lent'
      → Answered s c lent lent' (Ok O.Found)

-- the search with the channels of the cut that it finds, in two rows of places for these: 15 also where one of them has fewer than the run has channels; then nothing
-- changes. Only found writes into them, how many messages are on each channel at the first cut and the lowest of their stamps
pub data AnsweredListed (s c lent lent' counts counts' : List ℕ) (stamps stamps' : List ℤ) : Result Outcome Refusal → Type 0 where
  few_row : Both s c → ¬ Room (head_of s).channels counts stamps → lent' ≡ lent → counts' ≡ counts → stamps' ≡ stamps
      → AnsweredListed s c lent lent' counts counts' stamps stamps' (Err (refusal Run NoRoom 0))
  unlisted : (a : Result Outcome Refusal) → a ≢ Ok O.Found → (Both s c → Room (head_of s).channels counts stamps) → Answered s c lent lent' a → counts' ≡ counts → stamps' ≡ stamps
      → AnsweredListed s c lent lent' counts counts' stamps stamps' a
  listed : Room (head_of s).channels counts stamps → Answered s c lent lent' (Ok O.Found) → (cut : List ℕ) → First (run_in s) (clauses_in c (head_of s)) cut → Wrote (on_each (run_in s) cut) counts counts'
      → WroteLowest (run_in s) cut (head_of s).channels stamps stamps' → AnsweredListed s c lent lent' counts counts' stamps stamps' (Ok O.Found)
