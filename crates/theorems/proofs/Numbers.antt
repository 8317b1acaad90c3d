-- Reading an accepted record and numbering it again gives its fields back: events, kinds of records, comparisons, tests; and the file of a refusal.
use mathlib.Core.Path.{◌≡◌, refl, sym, ap, ◌∙◌, subst}
use mathlib.Core.Logic.{⊎_elim}
use mathlib.Core.List.{List}
use Prim.Native.Nat.{ℕ, zero, suc, ◌≤◌, ◌<◌}
use native.Mathlib.Omega.{arith}
use lib.IntN.{ℤ, pos}
use lib.ListN.{length, get_or}
use Rattle.model.specs.declared.Event.{Event}
use Rattle.model.specs.declared.Event.TheVariants.{Start, Internal, Send, Receive}
use Rattle.model.specs.Run.{into, IsState}
use Rattle.model.specs.Clause.{Clause}
use Rattle.record.specs.Bytes.{signed}
use Rattle.record.specs.Record.{kind_at, head_of, state_fields_at, step_at}
use Rattle.record.specs.declared.Head.{Head}
use Rattle.record.specs.declared.Record.{Record}
use Rattle.record.specs.declared.StateFields.{StateFields}
use Rattle.std.proofs.Common.{Ok}
use Rattle.record.proofs.Laws.{by_place}
use Rattle.states.specs.States.{message_of, event_of}
use Rattle.states.proofs.Laws.{FieldsOk}
use Rattle.run.specs.Said.{run_in, place_of}
use Rattle.run.proofs.Accepted.{record_stepped}
use Rattle.run.proofs.Listed.{event_is, fields_are}
use Rattle.judged.specs.Accepted.{RunAccepted}
use Rattle.judged.proofs.Acceptance.{accepted_read}
use Rattle.condition.specs.declared.Clause as H
use Rattle.condition.specs.declared.Clause.TheVariants as L
use Rattle.condition.specs.declared.Item.{Item}
use Rattle.condition.specs.Clauses.{comparison_of, test_of, clause_of, local_at, test_at, held_at}
use Rattle.condition.specs.Items as E
use Rattle.condition.specs.Accepted.{ConditionAccepted}
use Rattle.condition.specs.Known.{ClauseKnown, clauses_for}
use Rattle.condition.proofs.Accepted.{condition_known, clauses-in, clauses_at}
use Rattle.condition.proofs.Laws as K
use Rattle.theorems.specs.Numbers.{EventFields, event_fields, recorded_fields, record_kind, item_kind}
use Rattle.theorems.specs.Numbers.{comparison_number, test_number, OperandIs, clause_places, ClauseRecorded}

-- ---- events

-- of a record whose event is known, and in which what the event doesn't use is zero
module _ (f : StateFields) (ok : FieldsOk f) where
  same_fields : {a a' b b' c c' : ℕ} {x x' : ℤ} → a ≡ a' → b ≡ b' → c ≡ c' → x ≡ x'
      → ◌≡◌ {A = EventFields} (record { event = a; channel = b; message = c; stamp = x }) (record { event = a'; channel = b'; message = c'; stamp = x' })
  same_fields p q r z = rw (p, q, r, z) refl

  no_message : {n : ℕ} → f.event ≡ n → n < 2 → record { event = n; channel = 0; message = 0; stamp = pos 0 } ≡ recorded_fields f
  unfolding signed
  no_message e l = same_fields (sym e) (sym (ok.channel (omega arith))) (sym (ok.message (omega arith))) (ap signed (sym (ok.stamp (λ z. omega arith))))

  read : {e : Event} → event_of f ≡ e → event_fields e ≡ recorded_fields f → event_fields (event_of f) ≡ recorded_fields f
  read d w = ap event_fields d ∙ w

  by_event : (n : ℕ) → f.event ≡ n → event_fields (event_of f) ≡ recorded_fields f
  unfolding event_of message_of signed
  by_event zero e = read {e = Start} (simp e) (no_message e (omega arith))
  by_event (suc zero) e = read {e = Internal} (simp e) (no_message e (omega arith))
  by_event (suc (suc zero)) e = read {e = Send (message_of f)} (simp e) (same_fields (sym e) refl refl refl)
  by_event (suc (suc (suc zero))) e =
      read {e = Receive (message_of f)} (simp e) (same_fields (sym e) refl refl (ap signed (sym (ok.stamp (λ z. omega arith)))))
  by_event (suc (suc (suc (suc n)))) e = absurd (omega (arith, ok.event))

-- "An event is one of four kinds": numbering the event of a state of an accepted run gives back the fields of its record
pub event_again : {s : List ℕ} → RunAccepted s → (p k : ℕ) → IsState (run_in s) p k
    → event_fields (into (run_in s) p k) ≡ recorded_fields (state_fields_at s (place_of s p k))
event_again {s} v p k t =
    let read = accepted_read v refl in
    ap event_fields (event_is s read p k t) ∙ by_event (state_fields_at s (place_of s p k)) (fields_are s read p k t) _ refl

-- ---- kinds of records

-- a record that the step gives has the kind that stands there: of a run
pub record-kind : (s : List ℕ) (at next : ℕ) (r : Record) → step_at s at ≡ Ok (r, next) → record_kind r ≡ kind_at s at
record-kind s at next r g =
    let d = record_stepped s at next r g in
    let Kind : Record → Type 0 = λ r. record_kind r ≡ kind_at s at in
    subst Kind (sym d.item) (by_place s at Kind d.opening (λ z k. sym k) (λ l z k. sym k) (λ l z k. sym k) (λ l z k. sym k))

-- and of a condition
pub item-kind : (c : List ℕ) (at owed next : ℕ) (r : Item) → E.step_at c at owed ≡ Ok (r, next) → item_kind r ≡ kind_at c at
unfolding held_at
item-kind c at owed next r g =
    let d = K.item_stepped c at owed next r g in
    let Kind : Item → Type 0 = λ r. item_kind r ≡ kind_at c at in
    subst Kind (sym d.item) (K.by_place c at owed d.opening Kind (λ z k. sym k) (λ z y k. sym k) (λ z y k. ⊎_elim (λ e. rw e refl) (λ e. rw e refl) k))

-- ---- clauses

comparison_again : (n : ℕ) → 1 ≤ n → n ≤ 4 → comparison_number (comparison_of n) ≡ n
unfolding comparison_of
comparison_again zero a b = absurd (omega arith)
comparison_again (suc zero) a b = refl
comparison_again (suc (suc zero)) a b = refl
comparison_again (suc (suc (suc zero))) a b = refl
comparison_again (suc (suc (suc (suc zero)))) a b = refl
comparison_again (suc (suc (suc (suc (suc n))))) a b = absurd (omega arith)

-- tests 8 and 9 too, which aren't accepted
test_again : (n x : ℕ) → 1 ≤ n → n ≤ 9 → (test_number (test_of n x) ≡ n) × OperandIs (test_of n x) x
unfolding test_of
test_again zero x a b = absurd (omega arith)
test_again (suc zero) x a b = (refl, refl)
test_again (suc (suc zero)) x a b = (refl, refl)
test_again (suc (suc (suc zero))) x a b = (refl, refl)
test_again (suc (suc (suc (suc zero)))) x a b = (refl, refl)
test_again (suc (suc (suc (suc (suc zero))))) x a b = (refl, refl)
test_again (suc (suc (suc (suc (suc (suc zero)))))) x a b = (refl, refl)
test_again (suc (suc (suc (suc (suc (suc (suc zero))))))) x a b = (refl, refl)
test_again (suc (suc (suc (suc (suc (suc (suc (suc zero)))))))) x a b = (refl, tt)
test_again (suc (suc (suc (suc (suc (suc (suc (suc (suc zero))))))))) x a b = (refl, refl)
test_again (suc (suc (suc (suc (suc (suc (suc (suc (suc (suc n)))))))))) x a b = absurd (omega arith)

-- a clause that is known
clause_recorded : (c : List ℕ) (h : Head) (at : ℕ) → ClauseKnown c h at → ClauseRecorded c at (clause_of (held_at c at))
unfolding held_at
clause_recorded c h at w = ⊎_elim
    (λ e.
    let l = local_at c at in
    let n = comparison_again l.comparison (w.local e).some (w.local e).known in
    let held : held_at c at ≡ L.Local l = rw e refl in
    subst Recorded (sym held) (e, ap (λ n. record { process = l.process; value = l.value; comparison = n; constant = l.constant }) (sym n)))
    (λ e.
    let t = test_at c at in
    let n = test_again t.test t.operand (w.channel e).some (omega (arith, (w.channel e).linear)) in
    let held : held_at c at ≡ L.Channel t = rw e refl in
    subst Recorded (sym held) (e, refl, sym n.0, n.1))
    w.kind
  where
    Recorded : H.Clause → Type 0
    Recorded k = ClauseRecorded c at (clause_of k)

-- numbering a clause of an accepted condition gives back the kind and the fields of its record
pub clause_again : (s c : List ℕ) → ConditionAccepted s c → (k : ℕ) (d : Clause) → k < length (clause_places s c)
    → ClauseRecorded c (get_or (clause_places s c) k 0) (get_or (clauses_for s c) k d)
clause_again s c v k d l =
    let h = head_of s in
    let said : get_or (clauses_for s c) k d ≡ clause_of (held_at c (get_or (clause_places s c) k 0))
    = ap (λ ks. get_or ks k d) (clauses-in c h (clause_places s c) v) ∙ clauses_at c h (clause_places s c) k d l in
    subst (ClauseRecorded c (get_or (clause_places s c) k 0)) (sym said) (clause_recorded c h _ ((condition_known c h (clause_places s c) v).clauses k l))
