-- What judging a whole run gives: the pass's refusal, or 11, 12, 13 at the first record in file order, or that the run is accepted.
use Rattle.std.specs.Prelude.{Result, Ok, Err}
use Rattle.record.specs.declared.Head.{Head}
use Rattle.std.specs.Prelude.{◌≡◌, ℕ, ◌≤◌, ◌<◌, List, T}
use Rattle.model.specs.declared.Message.{Message}
use Rattle.model.specs.declared.Event.TheVariants.{Receive}
use Rattle.model.specs.Run.{processes, into, IsState, sending, receiving, same_message, Paired}
use Rattle.model.specs.Cut.{AfterCircle, ClockIs}
use Rattle.record.specs.Record.{head_of}
use Rattle.record.specs.Refusal.{refusal}
use Rattle.record.specs.declared.reasons.Reason.TheVariants.{Pairing, Circle, Clock}
use Rattle.record.specs.declared.File.TheVariants.{Run}
use Rattle.record.specs.declared.Refusal.{Refusal}
use Rattle.run.specs.Read.{read_of}
use Rattle.run.specs.Said.{states_of, run_in, place_of, recorded_clock}

-- s are the run's bytes; p and k, and i and j, a process and the number of one of its states
module _ (s : List ℕ) where
  -- 11: a second send or a second receive of a message, in file order, or a receive with no send
  pub data Unpaired (p k : ℕ) : Type 0 where
    second_send : (i j : ℕ) → IsState (run_in s) i j → place_of s i j < place_of s p k
        → T (same_message (sending (into (run_in s) i j)) (sending (into (run_in s) p k))) → Unpaired p k
    second_receive : (i j : ℕ) → IsState (run_in s) i j → place_of s i j < place_of s p k
        → T (same_message (receiving (into (run_in s) i j)) (receiving (into (run_in s) p k))) → Unpaired p k
    no_send : (m : Message) → into (run_in s) p k ≡ Receive m → ((i j : ℕ) → ¬ Paired (run_in s) i j p k) → Unpaired p k

  -- 13: a clock number other than the rule's
  pub record WrongClock (p k : ℕ) : Type 0 where
    pub place : ℕ
    pub there : place < processes (run_in s)
    pub wrong : ¬ ClockIs (run_in s) p k place (recorded_clock s p k place)

  -- the first record in file order at which a state has the fault
  pub record FirstAt (Fault : ℕ → ℕ → Type 0) (at : ℕ) : Type 0 where
    pub process : ℕ
    pub state : ℕ
    pub there : IsState (run_in s) process state
    pub fault : Fault process state
    pub place : at ≡ place_of s process state
    pub first : (p k : ℕ) → IsState (run_in s) p k → Fault p k → at ≤ place_of s p k

  -- no state has the fault
  abbrev pub Faultless : (ℕ → ℕ → Type 0) → Type 0
  Faultless Fault = (p k : ℕ) → IsState (run_in s) p k → ¬ Fault p k

  -- in this order: refused by the pass; 11; 12, on a circle or after one; 13; accepted
  pub data Judged : Result Head Refusal → Type 0 where
    by_pass : (x : Refusal) → read_of s ≡ Err x → Judged (Err x)
    by_pairing : (at : ℕ) → read_of s ≡ Ok (states_of s) → FirstAt Unpaired at → Judged (Err (refusal Run Pairing at))
    by_circle : (at : ℕ) → read_of s ≡ Ok (states_of s) → Faultless Unpaired → FirstAt (AfterCircle (run_in s)) at → Judged (Err (refusal Run Circle at))
    by_clock : (at : ℕ) → read_of s ≡ Ok (states_of s) → Faultless Unpaired → Faultless (AfterCircle (run_in s)) → FirstAt WrongClock at → Judged (Err (refusal Run Clock at))
    wholly : read_of s ≡ Ok (states_of s) → Faultless Unpaired → Faultless (AfterCircle (run_in s)) → Faultless WrongClock → Judged (Ok (head_of s))
