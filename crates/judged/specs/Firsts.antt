-- Words of the contracts of the inner functions that look for a first fault; the promises don't use them. Here s are a run's bytes and ix its index, k a state of
-- process p and l another, and bad has of each process one of its states, or none.
use Rattle.std.specs.Prelude.{◌≡◌, List, ℕ, ◌≤◌, ◌<◌, length, get_or, Option, Some, None}
use Rattle.std.specs.Option.{IfSome}
use Rattle.model.specs.Run.{IsState}
use Rattle.record.specs.Record.{head_of}
use Rattle.run.specs.Said.{run_in, place_of}
use Rattle.run.specs.Index.{Listed}
use Rattle.judged.specs.Judged.{FirstAt, Faultless}

-- k is the first state of process p that has the fault, or none has
pub record FirstOf (s : List ℕ) (Fault : ℕ → ℕ → Type 0) (p : ℕ) (k : Option ℕ) : Type 0 where
  pub there : IfSome k (IsState (run_in s) p)
  pub fault : IfSome k (Fault p)
  pub first : (l : ℕ) → IsState (run_in s) p l → IfSome k (λ k. l < k) → ¬ Fault p l

-- of each of processes 0 to n - 1
pub record FirstsTo (s : List ℕ) (Fault : ℕ → ℕ → Type 0) (n : ℕ) (bad : List (Option ℕ)) : Type 0 where
  pub each : (p : ℕ) → p < n → FirstOf s Fault p (get_or bad p None)

-- a process of an accepted run, with one of its states or none
pub record Candidate (s ix : List ℕ) (bad : List (Option ℕ)) (p : ℕ) : Type 0 where
  pub listed : Listed s ix
  pub eight : length bad ≡ 8
  pub process : p < (head_of s).processes
  pub there : IfSome (get_or bad p None) (IsState (run_in s) p)

-- the lowest of the places of these states of processes 0 to n - 1, or none where there is none of them
pub data Earliest (s : List ℕ) (n : ℕ) (bad : List (Option ℕ)) : Option ℕ → Type 0 where
  all_none : ((p : ℕ) → p < n → get_or bad p None ≡ None) → Earliest s n bad None
  lowest : (at p k : ℕ) → p < n → get_or bad p None ≡ Some k → at ≡ place_of s p k
      → ((q : ℕ) → q < n → IfSome (get_or bad q None) (λ l. at ≤ place_of s q l)) → Earliest s n bad (Some at)

-- what looking for a fault gives: the first record that has it, or that no state has, and what more is known then
pub data FirstJudged (s : List ℕ) (Fault : ℕ → ℕ → Type 0) (More : Type 0) : Option ℕ → Type 0 where
  faulty : (at : ℕ) → FirstAt s Fault at → FirstJudged s Fault More (Some at)
  faultless : Faultless s Fault → More → FirstJudged s Fault More None
