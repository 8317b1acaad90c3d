-- What the paper says of cuts, clocks and messages, of an accepted run and by the numbers of its own bytes. Above each theorem stands the sentence that it is.
use mathlib.Core.Path.{◌≡◌, refl, sym, ap, ◌∙◌, subst}
use mathlib.Core.Logic.{◌↔◌}
use mathlib.Core.Bool.{true, false}
use mathlib.Core.List.{List, [], ◌∷◌}
use Prim.Native.Nat.{ℕ, ◌+◌, ◌≤◌}
use native.Mathlib.Decide.{ℕ_discrete}
use native.Mathlib.Omega.{arith}
use lib.ListN.{length, replicate, length-append}
use Rattle.std.specs.Prelude.{Result, Ok}
use Rattle.model.proofs.Numbers.{never}
use Rattle.model.specs.Cut.{ClockIs, IsCut, Consistent, in_transit}
use Rattle.model.specs.Clause.{Clause, First}
use Rattle.model.specs.Clocks.{Clocks, ByClock}
use Rattle.model.specs.Sent.{ByMessage, sent_up_to, received_up_to}
use Rattle.model.proofs.Conserved.{conserved}
use Rattle.model.proofs.Lattice.{first_unique}
use Rattle.model.proofs.Order.{clock_unique, consistent_by_message, consistent_by_clock}
use Rattle.model.proofs.Search.{ones, first_ones}
use Rattle.record.specs.declared.Refusal.{Refusal}
use Rattle.record.specs.Bytes.{u16_at}
use Rattle.record.specs.Record.{head_of}
use Rattle.record.specs.declared.Head.{Head}
use Rattle.record.proofs.Pass.{accepted_holds}
use Rattle.run.specs.Said.{run_in, recorded_clock}
use Rattle.judged.specs.Judged.{Judged}
use Rattle.judged.specs.Judged.Judged.{by_pass, by_pairing, by_circle, by_clock, wholly}
use Rattle.judged.specs.Accepted.{RunAccepted}
use Rattle.judged.proofs.Acceptance.{accepted_known}
use Rattle.condition.specs.declared.Item.{Item}
use Rattle.condition.specs.Items.{step_at}
use Rattle.record.specs.Refusal.{passed}
use Rattle.condition.specs.Judge.{check_item}
use Rattle.condition.specs.Read.{is_end, condition_pass, read_of}
use Rattle.condition.specs.Accepted.{ConditionAccepted}
use Rattle.condition.specs.Known.{clauses_for}
use Rattle.condition.proofs.Accepted.{clauses-in, clauses_length}
use Rattle.condition.proofs.Laws.{by_place, item_stepped}
use Rattle.search.specs.declared.Outcome.{Outcome}
use Rattle.search.specs.declared.Outcome.TheVariants as O
use Rattle.checker.specs.Answered.{Both, Answered}
use Rattle.theorems.specs.Numbers.{clause_count}
use Rattle.theorems.proofs.HasClock.{has_clock}
use Rattle.theorems.proofs.Demands.{cut_in, known, size, named, found_exactly}

-- each recorded clock number is the rule's: the state has a clock, and another number would be refused
accepted_clocks : {s : List ℕ} {a : Result Head Refusal} {h : Head} → Judged s a → a ≡ Ok h → Clocks (run_in s) (recorded_clock s)
unfolding Clocks
accepted_clocks (by_pass x d) e = never (cc)
accepted_clocks (by_pairing x d w) e = never (cc)
accepted_clocks (by_circle x d n w) e = never (cc)
accepted_clocks (by_clock x d n m w) e = never (cc)
accepted_clocks {s} (wholly d n m o) e = λ j l i t p.
    let (k, w) = has_clock (run_in s) (accepted_known (wholly d n m o) e) m j l t i in
    elim (ℕ_discrete (recorded_clock s j l i) k) [
      | yes z ↦ subst (ClockIs (run_in s) j l i) (sym z) w
      | no z ↦ absurd (o j l t (record { place = i; there = p; wrong = λ c. z (clock_unique c w) }))
    ]

module _ {s : List ℕ} (v : RunAccepted s) where
  -- "13 clock: clock number other than the rule's": each clock number of the file is the rule's
  pub recorded_clocks : Clocks (run_in s) (recorded_clock s)
  recorded_clocks = accepted_clocks v refl

  module _ (cut : List ℕ) (is : IsCut (run_in s) cut) where
    -- "It is consistent if no chosen state is before another: for all i and j that differ, place i of j's clock is less than i's chosen number.
    pub consistent_by_recorded : Consistent (run_in s) cut ↔ ByClock (run_in s) (recorded_clock s) cut
    consistent_by_recorded = consistent_by_clock (run_in s) (recorded_clock s) cut recorded_clocks is

    -- The same fact without clocks: each message received up to the cut was sent up to it.
    pub consistent_by_messages : Consistent (run_in s) cut ↔ ByMessage (run_in s) cut
    consistent_by_messages = consistent_by_message (run_in s) (known v) cut is

    -- Both are proved to agree."
    pub clocks_messages_agree : ByClock (run_in s) (recorded_clock s) cut ↔ ByMessage (run_in s) cut
    clocks_messages_agree = (
      λ w. consistent_by_messages.0 (consistent_by_recorded.1 w),
      λ w. consistent_by_recorded.0 (consistent_by_messages.1 w),
    )

    -- "At a consistent cut, on each channel, messages sent equal messages received plus messages in transit."
    pub sent_received_in_transit : Consistent (run_in s) cut → (c : ℕ)
        → length (sent_up_to (run_in s) cut c) ≡ length (received_up_to (run_in s) cut c) + length (in_transit (run_in s) cut c)
    sent_received_in_transit ok c = conserved (run_in s) (known v) c cut is ok

-- ---- no clause

-- the clauses so far, and those owed, are as many as the head says
record Counted (c : List ℕ) (at : ℕ) (k : ℕ × List ℕ) : Type 0 where
  front : at ≡ 0 → length k.1 ≡ 0
  behind : (at ≡ 0 → ⊥) → k.0 + length k.1 ≡ clause_count c

module _ (c : List ℕ) (h : Head) where
  counted_next : (at next : ℕ) (k : ℕ × List ℕ) (r : Item) → Counted c at k → step_at c at k.0 ≡ Ok (r, next) → check_item h r ≡ passed → is_end r ≡ false
      → Counted c next ((condition_pass c h).more r at k)
  counted_next at next k r w g n =
      let d = item_stepped c at k.0 next r g in
      let past : next ≡ 0 → ⊥ = λ z. omega (arith, d.further) in
      let Behind : Item → Type 0 = λ r. is_end r ≡ false → Counted c next ((condition_pass c h).more r at k) in
      subst Behind (sym d.item) (by_place c at k.0 d.opening Behind
      (λ z y e. record { front = λ x. absurd (past x); behind = λ x. omega (arith, w.front z, ap (λ n. u16_at c (n + 4)) z) })
      (λ z y m e. never (cc))
      (λ z y m e. record { front = λ x. absurd (past x); behind = λ x. omega (arith, w.behind z, length-append k.1 (at ∷ []), y) }))

  counted_end : (at next : ℕ) (k : ℕ × List ℕ) (r : Item) → Counted c at k → step_at c at k.0 ≡ Ok (r, next) → check_item h r ≡ passed → is_end r ≡ true
      → length c ≤ next → length k.1 ≡ clause_count c
  counted_end at next k r w g n =
      let d = item_stepped c at k.0 next r g in
      let All : Item → Type 0 = λ r. is_end r ≡ true → length c ≤ next → length k.1 ≡ clause_count c in
      subst All (sym d.item) (by_place c at k.0 d.opening All
      (λ z y e l. never (cc))
      (λ z y m e l. omega (arith, w.behind z, y))
      (λ z y m e l. never (cc)))

  places_counted : (qs : List ℕ) → read_of c h ≡ Ok qs → length qs ≡ clause_count c
  unfolding read_of
  places_counted qs e = (accepted_holds (condition_pass c h) (Counted c) (λ qs. length qs ≡ clause_count c) counted_next counted_end
      (record { front = λ z. refl; behind = λ z. absurd (z refl) }) qs e).1

-- "16 condition head: clause count K": an accepted condition has as many clauses as its head says
pub clause-count : (s c : List ℕ) → ConditionAccepted s c → length (clauses_for s c) ≡ clause_count c
clause-count s c v = ap length (clauses-in c (head_of s) _ v) ∙ clauses_length c (head_of s) _ ∙ places_counted c (head_of s) _ v

-- "With K = 0 the first is state 1 everywhere": the answer is found, and the lent places hold ones
pub no_clause : {s c lent lent' : List ℕ} {a : Result Outcome Refusal} → Both s c → clause_count c ≡ 0 → (head_of s).processes ≤ length lent → Answered s c lent lent' a
    → (a ≡ Ok O.Found) × (cut_in s lent' ≡ replicate (head_of s).processes 1)
no_clause {s} {c} {lent} {lent'} v zero-clauses room w =
    let f = subst (λ cs. First (run_in s) cs (ones (run_in s))) (sym none) (first_ones (run_in s) (known v.run)) in
    let e = (found_exactly v room w).1 (ones (run_in s), f.satisfies) in
    (e, first_unique (named w e).first f ∙ ap (λ n. replicate n 1) (size v.run))
  where
    empty : (cs : List Clause) → length cs ≡ 0 → cs ≡ []
    empty [] e = refl
    empty (k ∷ cs) e = absurd (omega (arith, e))

    none : clauses_for s c ≡ []
    none = empty (clauses_for s c) (clause-count s c v.cond ∙ zero-clauses)
