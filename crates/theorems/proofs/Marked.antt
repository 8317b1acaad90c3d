-- The marked cases of the run of two desks: a single table under a single theorem, over the bytes and in the words of the contracts.
use mathlib.Core.Path.{◌≡◌, refl, sym, ap, ◌∙◌, subst}
use mathlib.Core.Option.{none}
use mathlib.Core.Logic.{◌↔◌}
use mathlib.Core.List.{List, [], ◌∷◌, ◌++◌, Memᴰ}
use Prim.Native.Nat.{ℕ, zero, suc, ◌+◌, ◌*◌, ◌≤◌, ◌<◌}
use native.Mathlib.Omega.{arith}
use lib.Dec.{T}
use lib.IntN.{pos}
use lib.ListN.{length, get_or, drop}
use Rattle.std.specs.Prelude.{Bool, true, false, Option, Some, None, Result, Ok, Err}
use Rattle.model.specs.Run.{processes, IsState, into, state, paired}
use Rattle.model.specs.Known.{Known}
use Rattle.model.specs.Cut.{AfterCircle, IsCut, Consistent, ClockIs, in_transit}
use Rattle.model.specs.Clause.{Clause, Satisfies, First}
use Rattle.model.specs.LowestStamp.{LowestStamp}
use Rattle.model.proofs.LowestStamp.{lowest_first}
use Rattle.model.specs.Clause.Clause.{local, on}
use Rattle.model.specs.Clause.Comparison.{equal, at_least}
use Rattle.model.specs.Clause.Test.{count_at_most, count_at_least, count_is, every_at_least, some_at_most}
use Rattle.model.proofs.Decide.{consistent?, cut?, cut_iff, message_iff}
use Rattle.model.proofs.Order.{consistent_by_message}
use Rattle.model.proofs.Desks as M
use Rattle.record.specs.declared.Refusal.{Refusal}
use Rattle.record.specs.Bytes.{u16_at, u32_at, signed}
use Rattle.record.specs.Refusal.{refuse_if, refusal}
use Rattle.record.specs.declared.reasons.Reason.{Reason}
use Rattle.record.specs.declared.reasons.Reason.TheVariants.{Clock}
use Rattle.record.specs.Record.{length_of, check_frame, head_of, due, check_opening, check_step, channel_fields_at, state_fields_at, record_at, step_at}
use Rattle.record.specs.declared.File.TheVariants as F
use Rattle.states.specs.States.{message_of, event_of, state_at, channel_at, places_of, tabulate, run_of}
use Rattle.states.specs.Judge.{check_head, check_channel, check_names, check_fields, check_start, check_side, check_state, lacks}
use Rattle.record.specs.Pass.{check_length, check_end, read_from, read_file}
use Rattle.run.specs.Read.{counts_of, read_of}
use Rattle.run.specs.Said.{states_of, run_in, place_of, recorded_clock}
use Rattle.judged.specs.Judged.{WrongClock, Faultless, Judged}
use Rattle.judged.specs.Judged.Judged.{by_clock, wholly}
use Rattle.condition.specs.Read as D
use Rattle.condition.specs.Items as E
use Rattle.condition.specs.Judge as J
use Rattle.condition.specs.Clauses.{comparison_of, test_of, local_at, test_at, held_at, clauses_of}
use Rattle.search.specs.declared.Outcome.{Outcome}
use Rattle.search.specs.declared.Outcome.TheVariants as O
use Rattle.transit.specs.declared.Load.{Load}
use Rattle.judged.specs.Accepted.{RunAccepted}
use Rattle.condition.specs.Accepted.{ConditionAccepted}
use Rattle.condition.specs.Known.{clauses_for}
use Rattle.cut.specs.Listing.{Wrote}
use Rattle.checker.specs.Answered.{Answered}
use Rattle.checker.specs.Answered.Answered.{run_refused}
use Rattle.questions.specs.Questions.{AskedConsistent, AskedMessages}
use Rattle.judged.proofs.Acceptance.{known_paired}
use Rattle.theorems.proofs.Demands.{written, first_found}
use Rattle.theorems.proofs.Determined.{answered_one, consistent_one, messages_one}

-- the 252 bytes, a record a line; x is place 0 of the clock of process 1's second state, which is 1
pub desks : ℕ → List ℕ
desks x =
    (10 ∷ 0 ∷ 1 ∷ 0 ∷ 1 ∷ 0 ∷ 2 ∷ 0 ∷ 1 ∷ 0 ∷ [])
    ++ (10 ∷ 0 ∷ 2 ∷ 0 ∷ 0 ∷ 0 ∷ 0 ∷ 0 ∷ 1 ∷ 0 ∷ [])
    ++ (38 ∷ 0 ∷ 3 ∷ 0 ∷ 0 ∷ 0 ∷ 0 ∷ 0 ∷ 0 ∷ 0 ∷ 0 ∷ 0 ∷ 0 ∷ 0 ∷ 0 ∷ 0 ∷ 0 ∷ 0 ∷ 0 ∷ 0 ∷ 0 ∷ 0 ∷ 0 ∷ 0 ∷ 0 ∷ 0 ∷ 0 ∷ 0 ∷ 0 ∷ 0 ∷ 0 ∷ 0 ∷ 0 ∷ 0 ∷ 1 ∷ 0 ∷ 0 ∷ 0 ∷ [])
    ++ (38 ∷ 0 ∷ 3 ∷ 0 ∷ 0 ∷ 0 ∷ 2 ∷ 0 ∷ 0 ∷ 0 ∷ 7 ∷ 0 ∷ 0 ∷ 0 ∷ 5 ∷ 0 ∷ 0 ∷ 0 ∷ 1 ∷ 0 ∷ 0 ∷ 0 ∷ 0 ∷ 0 ∷ 0 ∷ 0 ∷ 0 ∷ 0 ∷ 0 ∷ 0 ∷ 0 ∷ 0 ∷ 0 ∷ 0 ∷ 2 ∷ 0 ∷ 0 ∷ 0 ∷ [])
    ++ (38 ∷ 0 ∷ 3 ∷ 0 ∷ 0 ∷ 0 ∷ 1 ∷ 0 ∷ 0 ∷ 0 ∷ 0 ∷ 0 ∷ 0 ∷ 0 ∷ 0 ∷ 0 ∷ 0 ∷ 0 ∷ 1 ∷ 0 ∷ 0 ∷ 0 ∷ 0 ∷ 0 ∷ 0 ∷ 0 ∷ 0 ∷ 0 ∷ 0 ∷ 0 ∷ 0 ∷ 0 ∷ 0 ∷ 0 ∷ 3 ∷ 0 ∷ 0 ∷ 0 ∷ [])
    ++ (38 ∷ 0 ∷ 3 ∷ 0 ∷ 1 ∷ 0 ∷ 0 ∷ 0 ∷ 0 ∷ 0 ∷ 0 ∷ 0 ∷ 0 ∷ 0 ∷ 0 ∷ 0 ∷ 0 ∷ 0 ∷ 0 ∷ 0 ∷ 0 ∷ 0 ∷ 0 ∷ 0 ∷ 0 ∷ 0 ∷ 0 ∷ 0 ∷ 0 ∷ 0 ∷ 0 ∷ 0 ∷ 0 ∷ 0 ∷ 0 ∷ 0 ∷ 1 ∷ 0 ∷ [])
    ++ (38 ∷ 0 ∷ 3 ∷ 0 ∷ 1 ∷ 0 ∷ 3 ∷ 0 ∷ 0 ∷ 0 ∷ 7 ∷ 0 ∷ 0 ∷ 0 ∷ 0 ∷ 0 ∷ 0 ∷ 0 ∷ 0 ∷ 0 ∷ 0 ∷ 0 ∷ 0 ∷ 0 ∷ 0 ∷ 0 ∷ 0 ∷ 0 ∷ 0 ∷ 0 ∷ 0 ∷ 0 ∷ 0 ∷ 0 ∷ x ∷ 0 ∷ 2 ∷ 0 ∷ [])
    ++ (38 ∷ 0 ∷ 3 ∷ 0 ∷ 1 ∷ 0 ∷ 1 ∷ 0 ∷ 0 ∷ 0 ∷ 0 ∷ 0 ∷ 0 ∷ 0 ∷ 0 ∷ 0 ∷ 0 ∷ 0 ∷ 1 ∷ 0 ∷ 0 ∷ 0 ∷ 0 ∷ 0 ∷ 0 ∷ 0 ∷ 0 ∷ 0 ∷ 0 ∷ 0 ∷ 0 ∷ 0 ∷ 0 ∷ 0 ∷ 1 ∷ 0 ∷ 3 ∷ 0 ∷ [])
    ++ (4 ∷ 0 ∷ 4 ∷ 0 ∷ [])

-- no clause
pub condition_2 : List ℕ
condition_2 = 6 ∷ 0 ∷ 16 ∷ 0 ∷ 0 ∷ 0 ∷ 4 ∷ 0 ∷ 4 ∷ 0 ∷ []

-- count exactly 1
pub condition_3 : List ℕ
condition_3 = 6 ∷ 0 ∷ 16 ∷ 0 ∷ 1 ∷ 0 ∷ 12 ∷ 0 ∷ 18 ∷ 0 ∷ 0 ∷ 0 ∷ 3 ∷ 0 ∷ 1 ∷ 0 ∷ 0 ∷ 0 ∷ 4 ∷ 0 ∷ 4 ∷ 0 ∷ []

-- process 0 value 0 at least 1, count at most 0
pub condition_4 : List ℕ
condition_4 = 6 ∷ 0 ∷ 16 ∷ 0 ∷ 2 ∷ 0 ∷ 14 ∷ 0 ∷ 17 ∷ 0 ∷ 0 ∷ 0 ∷ 0 ∷ 0 ∷ 4 ∷ 0 ∷ 1 ∷ 0 ∷ 0 ∷ 0 ∷ 12 ∷ 0 ∷ 18 ∷ 0 ∷ 0 ∷ 0 ∷ 1 ∷ 0 ∷ 0 ∷ 0 ∷ 0 ∷ 0 ∷ 4 ∷ 0 ∷ 4 ∷ 0 ∷ []

-- process 1 value 0 equals 1
pub condition_5 : List ℕ
condition_5 = 6 ∷ 0 ∷ 16 ∷ 0 ∷ 1 ∷ 0 ∷ 14 ∷ 0 ∷ 17 ∷ 0 ∷ 1 ∷ 0 ∷ 0 ∷ 0 ∷ 1 ∷ 0 ∷ 1 ∷ 0 ∷ 0 ∷ 0 ∷ 4 ∷ 0 ∷ 4 ∷ 0 ∷ []

-- that and count at least 1
pub condition_6 : List ℕ
condition_6 = 6 ∷ 0 ∷ 16 ∷ 0 ∷ 2 ∷ 0 ∷ 14 ∷ 0 ∷ 17 ∷ 0 ∷ 1 ∷ 0 ∷ 0 ∷ 0 ∷ 1 ∷ 0 ∷ 1 ∷ 0 ∷ 0 ∷ 0 ∷ 12 ∷ 0 ∷ 18 ∷ 0 ∷ 0 ∷ 0 ∷ 2 ∷ 0 ∷ 1 ∷ 0 ∷ 0 ∷ 0 ∷ 4 ∷ 0 ∷ 4 ∷ 0 ∷ []

-- every stamp at least 6
pub condition_7 : List ℕ
condition_7 = 6 ∷ 0 ∷ 16 ∷ 0 ∷ 1 ∷ 0 ∷ 12 ∷ 0 ∷ 18 ∷ 0 ∷ 0 ∷ 0 ∷ 6 ∷ 0 ∷ 6 ∷ 0 ∷ 0 ∷ 0 ∷ 4 ∷ 0 ∷ 4 ∷ 0 ∷ []

-- some stamp at most 4
pub condition_8 : List ℕ
condition_8 = 6 ∷ 0 ∷ 16 ∷ 0 ∷ 1 ∷ 0 ∷ 12 ∷ 0 ∷ 18 ∷ 0 ∷ 0 ∷ 0 ∷ 7 ∷ 0 ∷ 4 ∷ 0 ∷ 0 ∷ 0 ∷ 4 ∷ 0 ∷ 4 ∷ 0 ∷ []

-- a case: whether a cut is consistent, what the search says, what is in transit on a channel; and what is refused where the clock has a 2 in place of the 1
pub data Case : Type 0 where
  cut : List ℕ → Result Bool Refusal → Case
  search : (condition : List ℕ) → Option (List ℕ) → Case
  messages : (cut : List ℕ) (channel : ℕ) → Result (Option Load) Refusal → Case
  refused : (reason : Reason) (place : ℕ) → Case

abbrev pub Says : Case → Type 0
Says (cut d a) = AskedConsistent (desks 1) d a
Says (search c (Some d)) = (lent lent' : List ℕ) → 2 ≤ length lent → Wrote d lent lent' → Answered (desks 1) c lent lent' (Ok O.Found)
Says (search c None) = (lent : List ℕ) → 2 ≤ length lent → Answered (desks 1) c lent lent (Ok O.NoCut)
Says (messages d h a) = AskedMessages (desks 1) d h a
Says (refused why place) = (c lent : List ℕ) → Answered (desks 2) c lent lent (Err (refusal F.Run why place))

pub table : List Case
table =
    cut (1 ∷ 1 ∷ []) (Ok true) ∷ cut (1 ∷ 2 ∷ []) (Ok false) ∷ cut (1 ∷ 3 ∷ []) (Ok false)
    ∷ cut (2 ∷ 1 ∷ []) (Ok true) ∷ cut (2 ∷ 2 ∷ []) (Ok true) ∷ cut (2 ∷ 3 ∷ []) (Ok true)
    ∷ cut (3 ∷ 1 ∷ []) (Ok true) ∷ cut (3 ∷ 2 ∷ []) (Ok true) ∷ cut (3 ∷ 3 ∷ []) (Ok true)
    ∷ search condition_2 (Some (1 ∷ 1 ∷ []))
    ∷ search condition_3 (Some (2 ∷ 1 ∷ [])) ∷ messages (2 ∷ 1 ∷ []) 0 (Ok (Some (record { count = 1; lowest = pos 5 })))
    ∷ search condition_4 (Some (2 ∷ 2 ∷ []))
    ∷ search condition_5 (Some (2 ∷ 3 ∷ []))
    ∷ search condition_6 None
    ∷ search condition_7 (Some (1 ∷ 1 ∷ []))
    ∷ search condition_8 None
    ∷ messages (1 ∷ 2 ∷ []) 0 (Ok None)
    ∷ refused Clock 172
    ∷ []

-- ---- the run is accepted; where x is 2 it is refused

module _ (x : ℕ) where
  read_places : read_of (desks x) ≡ Ok (20 ∷ 58 ∷ 96 ∷ 134 ∷ 172 ∷ 210 ∷ [])
  unfolding desks u16_at u32_at signed refuse_if length_of check_frame head_of due check_opening check_step channel_fields_at state_fields_at record_at step_at message_of event_of state_at channel_at places_of tabulate check_head check_channel check_names check_fields check_start check_side check_state lacks counts_of check_length check_end read_from read_file read_of
  read_places = refl

  states_are : states_of (desks x) ≡ 20 ∷ 58 ∷ 96 ∷ 134 ∷ 172 ∷ 210 ∷ []
  unfolding states_of
  states_are = rw read_places refl

  read : read_of (desks x) ≡ Ok (states_of (desks x))
  read = read_places ∙ ap Ok (sym states_are)

  run_is : run_in (desks x) ≡ M.desks
  unfolding desks u16_at u32_at signed head_of state_fields_at message_of event_of state_at channel_at places_of tabulate run_of run_in M.desks M.row M.note
  run_is = rw states_are refl

  known : Known (run_in (desks x))
  known = subst Known (sym run_is) M.desks_known

  clear : Faultless (desks x) (AfterCircle (run_in (desks x)))
  clear = subst (λ r. (p k : ℕ) → IsState r p k → ¬ AfterCircle r p k) (sym run_is) M.desks_clear

  -- where the states of each process stand
  places_are : (places_of (desks x) (states_of (desks x)) 0 ≡ 20 ∷ 58 ∷ 96 ∷ []) × (places_of (desks x) (states_of (desks x)) 1 ≡ 134 ∷ 172 ∷ 210 ∷ [])
  unfolding desks u16_at state_fields_at places_of
  places_are = rw states_are (refl, refl)

  -- the clock that a record has is the rule's
  abbrev Right : ℕ → ℕ → Type 0
  Right p k = (i : ℕ) → i < 2 → ClockIs M.desks p k i (recorded_clock (desks x) p k i)

  pick : {j l : ℕ} (f : ℕ → ℕ) → ClockIs M.desks j l 0 (f 0) → ClockIs M.desks j l 1 (f 1) → (i : ℕ) → i < 2 → ClockIs M.desks j l i (f i)
  pick f a b zero h = a
  pick f a b (suc zero) h = b
  pick f a b (suc (suc i)) h = absurd (omega arith)

  right_0 : Right 0 1 × Right 0 2 × Right 0 3
  unfolding desks u16_at
  right_0 = rw places_are.0 (
    pick (λ i. u16_at (desks x) (54 + 2 * i)) (M.clock_01).left (M.clock_01).right,
    pick (λ i. u16_at (desks x) (92 + 2 * i)) (M.clock_02).left (M.clock_02).right,
    pick (λ i. u16_at (desks x) (130 + 2 * i)) (M.clock_03).left (M.clock_03).right,
  )

  right_1 : Right 1 1 × Right 1 3
  unfolding desks u16_at
  right_1 = rw places_are.1 (
    pick (λ i. u16_at (desks x) (168 + 2 * i)) (M.clock_11).left (M.clock_11).right,
    pick (λ i. u16_at (desks x) (244 + 2 * i)) (M.clock_13).left (M.clock_13).right,
  )

  not_wrong : (p k : ℕ) → Right p k → ¬ WrongClock (desks x) p k
  unfolding M.desks
  not_wrong p k right w =
      let i = w.place in
      let h : i < processes M.desks = subst (λ r. i < processes r) run_is w.there in
      w.wrong (subst (λ r. ClockIs r p k i (recorded_clock (desks x) p k i)) (sym run_is) (right i h))

right_12 : Right 1 1 2
unfolding desks u16_at
right_12 = rw (places_are 1).1 (pick 1 (λ i. u16_at (desks 1) (206 + 2 * i)) (M.clock_12).left (M.clock_12).right)

run_accepted : RunAccepted (desks 1)
run_accepted = wholly (read 1) (known_paired (desks 1) (read 1) (known 1)) (clear 1)
    (λ p k t. M.each_state (λ p k. ¬ WrongClock (desks 1) p k)
    (not_wrong 1 0 1 (right_0 1).0) (not_wrong 1 0 2 (right_0 1).1) (not_wrong 1 0 3 (right_0 1).2)
    (not_wrong 1 1 1 (right_1 1).0) (not_wrong 1 1 2 right_12) (not_wrong 1 1 3 (right_1 1).1)
    p k (subst (λ r. IsState r p k) (run_is 1) t))

wrong_12 : WrongClock (desks 2) 1 2
unfolding desks u16_at M.desks
wrong_12 = record {
  place = 0;
  there = subst (λ r. 0 < processes r) (sym (run_is 2)) (omega arith);
  wrong = λ w. M.wrong_clock (subst (λ r. ClockIs r 1 2 0 2) (run_is 2) (rw (places_are 2).1 at w));
}

second : IsState M.desks 1 2
unfolding M.desks
second = record { counted = omega arith; there = omega arith }

run-refused : Judged (desks 2) (Err (refusal F.Run Clock 172))
run-refused = by_clock 172 (read 2) (known_paired (desks 2) (read 2) (known 2)) (clear 2) (record {
  process = 1;
  state = 2;
  there = subst (λ r. IsState r 1 2) (sym (run_is 2)) second;
  fault = wrong_12;
  place = rw (places_are 2).1 refl;
  first = λ p k t. M.each_state (λ p k. WrongClock (desks 2) p k → 172 ≤ place_of (desks 2) p k)
      (λ w. absurd (not_wrong 2 0 1 (right_0 2).0 w)) (λ w. absurd (not_wrong 2 0 2 (right_0 2).1 w)) (λ w. absurd (not_wrong 2 0 3 (right_0 2).2 w))
      (λ w. absurd (not_wrong 2 1 1 (right_1 2).0 w)) (λ w. rw (places_are 2).1 (omega arith)) (λ w. rw (places_are 2).1 (omega arith))
      p k (subst (λ r. IsState r p k) (run_is 2) t);
})

-- ---- the conditions are accepted, with their clauses

abbrev Reads : List ℕ → List Clause → Type 0
Reads c ks = ConditionAccepted (desks 1) c × (clauses_for (desks 1) c ≡ ks)

conditions : Reads condition_2 []
    × Reads condition_3 (on 0 (count_is 1) ∷ [])
    × Reads condition_4 (local 0 0 at_least (pos 1) ∷ on 0 (count_at_most 0) ∷ [])
    × Reads condition_5 (local 1 0 equal (pos 1) ∷ [])
    × Reads condition_6 (local 1 0 equal (pos 1) ∷ on 0 (count_at_least 1) ∷ [])
    × Reads condition_7 (on 0 (every_at_least (pos 6)) ∷ [])
    × Reads condition_8 (on 0 (some_at_most (pos 4)) ∷ [])
unfolding desks condition_2 condition_3 condition_4 condition_5 condition_6 condition_7 condition_8 u16_at u32_at signed refuse_if length_of check_frame head_of E.due E.check_step E.item_at E.step_at J.check_head J.check_local J.check_test comparison_of test_of local_at test_at held_at clauses_of check_length check_end read_from read_file D.read_of D.clauses_in
conditions = ((refl, refl), (refl, refl), (refl, refl), (refl, refl), (refl, refl), (refl, refl), (refl, refl))

-- ---- each kind of case from the model's

two : (head_of (desks 1)).processes ≡ 2
unfolding desks head_of u16_at
two = refl

at_first : (c : List ℕ) (ks : List Clause) (d : List ℕ) → Reads c ks → First M.desks ks d → Says (search c (Some d))
at_first c ks d (v, e) f lent lent' h w =
    first_found (record { run = run_accepted; cond = v }) (omega (arith, h, two))
    (subst (λ r. First r (clauses_for (desks 1) c) d) (sym (run_is 1)) (subst (λ ks. First M.desks ks d) (sym e) f)) w

at_none : (c : List ℕ) (ks : List Clause) → Reads c ks → ((d : List ℕ) → ¬ Satisfies M.desks ks d) → Says (search c None)
at_none c ks (v, e) n lent h = Answered.none (record { run = run_accepted; cond = v }) (omega (arith, h, two))
    (subst (λ r. (d : List ℕ) → ¬ Satisfies r (clauses_for (desks 1) c) d) (sym (run_is 1)) (subst (λ ks. (d : List ℕ) → ¬ Satisfies M.desks ks d) (sym e) n)) refl

module _ (d : List ℕ) (there : T (cut? M.desks d)) where
  desks_cut : IsCut M.desks d
  desks_cut = (cut_iff M.desks d).0 there

  ours : IsCut (run_in (desks 1)) d
  ours = subst (λ r. IsCut r d) (sym (run_is 1)) desks_cut

  by_test : T (consistent? M.desks d) ↔ Consistent M.desks d
  by_test = (
    λ t. (consistent_by_message M.desks M.desks_known d desks_cut).1 ((message_iff M.desks M.desks_known d).0 t),
    λ w. (message_iff M.desks M.desks_known d).1 ((consistent_by_message M.desks M.desks_known d desks_cut).0 w),
  )

  at_yes : T (consistent? M.desks d) → Says (cut d (Ok true))
  at_yes t = AskedConsistent.yes run_accepted ours (subst (λ r. Consistent r d) (sym (run_is 1)) (by_test.0 t))

  at_no : ¬ T (consistent? M.desks d) → Says (cut d (Ok false))
  at_no n = AskedConsistent.no run_accepted ours (λ w. n (by_test.1 (subst (λ r. Consistent r d) (run_is 1) w)))

at_early : Says (messages (1 ∷ 2 ∷ []) 0 (Ok None))
unfolding desks head_of u16_at M.desks M.row M.note
at_early = AskedMessages.empty run_accepted (ours (1 ∷ 2 ∷ []) tt) (omega arith) (ap (λ r. in_transit r (1 ∷ 2 ∷ []) 0) (run_is 1) ∙ M.early)

at_sent : Says (messages (2 ∷ 1 ∷ []) 0 (Ok (Some (record { count = 1; lowest = pos 5 }))))
unfolding desks head_of u16_at M.desks M.row M.note
at_sent =
    let e = ap (λ r. in_transit r (2 ∷ 1 ∷ []) 0) (run_is 1) ∙ M.sent in
    subst (λ n. AskedMessages (desks 1) (2 ∷ 1 ∷ []) 0 (Ok (Some (record { count = n; lowest = pos 5 })))) (ap length e)
    (AskedMessages.messages run_accepted (ours (2 ∷ 1 ∷ []) tt) (omega arith) (pos 5) (subst (λ ms. LowestStamp ms (pos 5)) (sym e) (lowest_first (M.note 0 7 (pos 5)))))

-- ---- the theorem

infixr 5 ◌also◌
data All : List Case → Type 0 where
  none_left : All []
  ◌also◌ : {k : Case} {ks : List Case} → Says k → All ks → All (k ∷ ks)

each : {ks : List Case} → All ks → (k : Case) → Memᴰ k ks → Says k
each none_left k x = elim x [ ]
each (w also ws) k (Memᴰ.head e) = rw e w
each (w also ws) k (Memᴰ.tail q) = each ws k q

-- row n of the model's table
model_row : (ks : List M.Example) → ((k : M.Example) → Memᴰ k ks → M.Answer M.desks k.clauses k.answer) → (n : ℕ) → n < length ks
    → M.Answer M.desks (get_or ks n (M.example [] none)).clauses (get_or ks n (M.example [] none)).answer
model_row [] all n h = absurd (omega arith)
model_row (k ∷ ks) all zero h = all k (Memᴰ.head refl)
model_row (k ∷ ks) all (suc n) h = model_row ks (λ j m. all j (Memᴰ.tail m)) n (omega arith)

pub marked : (k : Case) → Memᴰ k table → Says k
unfolding table M.table M.example M.desks M.row M.note into state paired
marked =
    let row = model_row M.table M.marked in
    each (
    at_yes (1 ∷ 1 ∷ []) tt tt also at_no (1 ∷ 2 ∷ []) tt (λ t. t) also at_no (1 ∷ 3 ∷ []) tt (λ t. t)
    also at_yes (2 ∷ 1 ∷ []) tt tt also at_yes (2 ∷ 2 ∷ []) tt tt also at_yes (2 ∷ 3 ∷ []) tt tt
    also at_yes (3 ∷ 1 ∷ []) tt tt also at_yes (3 ∷ 2 ∷ []) tt tt also at_yes (3 ∷ 3 ∷ []) tt tt
    also at_first condition_2 _ _ conditions.0 (row 0 (omega arith))
    also at_first condition_3 _ _ conditions.1 (row 1 (omega arith)) also at_sent
    also at_first condition_4 _ _ conditions.2 (row 2 (omega arith))
    also at_first condition_5 _ _ conditions.3 (row 3 (omega arith))
    also at_none condition_6 _ conditions.4 (row 4 (omega arith))
    also at_first condition_7 _ _ conditions.5 (row 5 (omega arith))
    also at_none condition_8 _ conditions.6 (row 6 (omega arith))
    also at_early
    also (λ c lent. run_refused _ run-refused refl)
    also none_left)

-- and no other answer is allowed
abbrev pub Only : Case → Type 0
Only (cut d a) = (b : Result Bool Refusal) → AskedConsistent (desks 1) d b → b ≡ a
Only (search c (Some d)) = (lent lent' : List ℕ) (a : Result Outcome Refusal) → 2 ≤ length lent → length d ≤ length lent → Answered (desks 1) c lent lent' a → (a ≡ Ok O.Found) × Wrote d lent lent'
Only (search c None) = (lent lent' : List ℕ) (a : Result Outcome Refusal) → 2 ≤ length lent → Answered (desks 1) c lent lent' a → (a ≡ Ok O.NoCut) × (lent' ≡ lent)
Only (messages d h a) = (b : Result (Option Load) Refusal) → AskedMessages (desks 1) d h b → b ≡ a
Only (refused why place) = (c lent lent' : List ℕ) (a : Result Outcome Refusal) → Answered (desks 2) c lent lent' a → (a ≡ Err (refusal F.Run why place)) × (lent' ≡ lent)

only : (k : Case) → Says k → Only k
only (cut d a) w = λ b v. consistent_one v w
only (search c (Some d)) w = λ lent lent' a h l v.
    let x = written d lent l in
    let o = answered_one v (w lent (d ++ drop (length d) lent) h x) in
    (o.0, subst (Wrote d lent) (sym o.1) x)
only (search c None) w = λ lent lent' a h v. answered_one v (w lent h)
only (messages d h a) w = λ b v. messages_one v w
only (refused why place) w = λ c lent lent' a v. answered_one v (w c lent)

pub marked_only : (k : Case) → Memᴰ k table → Only k
marked_only k m = only k (marked k m)
