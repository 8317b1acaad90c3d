-- What the public calls about a given cut answer: the run's refusal, the condition's, 16, 17 or 15, and then the answer.
use Rattle.std.specs.Prelude.{◌≡◌, Bool, true, false, List, [], ℕ, ◌≤◌, ◌<◌, ℤ, Option, Some, None, Result, Ok, Err, length}
use Rattle.model.specs.Cut.{IsCut, Consistent, in_transit}
use Rattle.model.specs.Clause.{Satisfies}
use Rattle.model.specs.LowestStamp.{LowestStamp}
use Rattle.record.specs.Record.{head_of}
use Rattle.record.specs.Refusal.{refusal}
use Rattle.record.specs.declared.reasons.Reason.TheVariants.{NoRoom, WrongCut, NoChannel}
use Rattle.record.specs.declared.File.TheVariants.{Run}
use Rattle.record.specs.declared.Refusal.{Refusal}
use Rattle.judged.specs.Judged.{Judged}
use Rattle.judged.specs.Accepted.{RunAccepted}
use Rattle.run.specs.Said.{run_in}
use Rattle.condition.specs.Read.{read_of, clauses_in}
use Rattle.condition.specs.Accepted.{ConditionAccepted}
use Rattle.cut.specs.Listing.{on_each, Room, Wrote, WroteLowest}
use Rattle.transit.specs.declared.Load.{Load}

module _ (s cut : List ℕ) where
  pub data AskedConsistent : Result Bool Refusal → Type 0 where
    run_refused : (x : Refusal) → Judged s (Err x) → AskedConsistent (Err x)
    not_cut : RunAccepted s → ¬ IsCut (run_in s) cut → AskedConsistent (Err (refusal Run WrongCut 0))
    yes : RunAccepted s → IsCut (run_in s) cut → Consistent (run_in s) cut → AskedConsistent (Ok true)
    no : RunAccepted s → IsCut (run_in s) cut → ¬ Consistent (run_in s) cut → AskedConsistent (Ok false)

  pub data AskedMessages (channel : ℕ) : Result (Option Load) Refusal → Type 0 where
    run_refused : (x : Refusal) → Judged s (Err x) → AskedMessages channel (Err x)
    not_cut : RunAccepted s → ¬ IsCut (run_in s) cut → AskedMessages channel (Err (refusal Run WrongCut 0))
    no_such_channel : RunAccepted s → IsCut (run_in s) cut → (head_of s).channels ≤ channel → AskedMessages channel (Err (refusal Run NoChannel 0))
    empty : RunAccepted s → IsCut (run_in s) cut → channel < (head_of s).channels → in_transit (run_in s) cut channel ≡ [] → AskedMessages channel (Ok None)
    messages : RunAccepted s → IsCut (run_in s) cut → channel < (head_of s).channels → (x : ℤ) → LowestStamp (in_transit (run_in s) cut channel) x
        → AskedMessages channel (Ok (Some (record { count = length (in_transit (run_in s) cut channel); lowest = x })))

pub data AskedSatisfies (s c cut : List ℕ) : Result Bool Refusal → Type 0 where
  run_refused : (x : Refusal) → Judged s (Err x) → AskedSatisfies s c cut (Err x)
  condition_refused : (x : Refusal) → RunAccepted s → read_of c (head_of s) ≡ Err x → AskedSatisfies s c cut (Err x)
  not_cut : RunAccepted s → ConditionAccepted s c → ¬ IsCut (run_in s) cut → AskedSatisfies s c cut (Err (refusal Run WrongCut 0))
  yes : RunAccepted s → ConditionAccepted s c → Satisfies (run_in s) (clauses_in c (head_of s)) cut → AskedSatisfies s c cut (Ok true)
  no : RunAccepted s → ConditionAccepted s c → IsCut (run_in s) cut → ¬ Satisfies (run_in s) (clauses_in c (head_of s)) cut → AskedSatisfies s c cut (Ok false)

-- 15: a place for each channel is to be lent in both rows
pub data AskedEach (s cut counts counts' : List ℕ) (stamps stamps' : List ℤ) : Result Unit Refusal → Type 0 where
  run_refused : (x : Refusal) → Judged s (Err x) → counts' ≡ counts → stamps' ≡ stamps → AskedEach s cut counts counts' stamps stamps' (Err x)
  not_cut : RunAccepted s → ¬ IsCut (run_in s) cut → counts' ≡ counts → stamps' ≡ stamps → AskedEach s cut counts counts' stamps stamps' (Err (refusal Run WrongCut 0))
  few : RunAccepted s → IsCut (run_in s) cut → ¬ Room (head_of s).channels counts stamps → counts' ≡ counts → stamps' ≡ stamps
      → AskedEach s cut counts counts' stamps stamps' (Err (refusal Run NoRoom 0))
  listed : RunAccepted s → IsCut (run_in s) cut → Room (head_of s).channels counts stamps → Wrote (on_each (run_in s) cut) counts counts'
      → WroteLowest (run_in s) cut (head_of s).channels stamps stamps' → AskedEach s cut counts counts' stamps stamps' (Ok tt)
