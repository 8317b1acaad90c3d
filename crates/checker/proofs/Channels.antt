-- The answer of the search as an answer with the channels: what a found cut is, and what is said where there are too few places for the channels.
use Rattle.std.specs.Prelude.{Result, Ok, Err}
use mathlib.Core.Path.{◌≡◌, refl, sym, ap, subst}
use mathlib.Core.List.{List, [], ◌∷◌, ◌++◌}
use Prim.Native.Nat.{ℕ, ◌≤◌}
use native.Mathlib.Omega.{arith}
use lib.IntN.{ℤ}
use lib.ListN.{length, take}
use Rattle.model.specs.Cut.{IsCut}
use Rattle.model.specs.Clause.{First}
use Rattle.model.proofs.Numbers.{never}
use Rattle.record.specs.Record.{head_of}
use Rattle.record.specs.declared.Head.{Head}
use Rattle.record.specs.declared.Refusal.{Refusal}
use Rattle.run.specs.Said.{run_in}
use Rattle.run.proofs.Listed.{ok, processes_are}
use Rattle.judged.specs.Judged.{Judged}
use Rattle.judged.specs.Accepted.{RunAccepted}
use Rattle.judged.specs.Told.{Told}
use Rattle.judged.proofs.Once.{judged_one}
use Rattle.condition.specs.Known.{clauses_for}
use Rattle.cut.specs.Listing.{on_each, Room, Wrote, WroteLowest}
use Rattle.search.specs.declared.Outcome.{Outcome}
use Rattle.search.specs.declared.Outcome.TheVariants as O
use Rattle.checker.specs.Answered.{Answered, AnsweredListed}
use Rattle.checker.specs.Answered.Answered.{run_refused, cond_refused, few, none, found}
use Rattle.checker.specs.Answered.AnsweredListed.{few_row, unlisted, listed}
use Rattle.checker.proofs.Rows.{take_written}

not_refused : {s : List ℕ} {x : Refusal} → Judged s (Err x) → RunAccepted s → ⊥
not_refused {s} j k = let e = judged_one s j k in never (cc)

pub run-refused : {s c lent counts : List ℕ} {stamps : List ℤ} {x : Refusal} → Judged s (Err x) → AnsweredListed s c lent lent counts counts stamps stamps (Err x)
run-refused {x = x} j = unlisted (Err x) (λ e. never (cc)) (λ b. absurd (not_refused j b.run)) (run_refused x j refl) refl refl

-- the cut that stands in the lent places
pub record CutFound (s c lent lent' : List ℕ) : Type 0 where
  pub row : List ℕ
  pub first : First (run_in s) (clauses_for s c) row
  pub wrote : Wrote row lent lent'
  pub room : (head_of s).processes ≤ length lent

pub found_cut : {s c lent lent' : List ℕ} {a : Result Outcome Refusal} → Answered s c lent lent' a → a ≡ Ok O.Found → CutFound s c lent lent'
found_cut (run_refused x j d) e = never (cc)
found_cut (cond_refused x j r d) e = never (cc)
found_cut (few b h d) e = never (cc)
found_cut (none b h n d) e = never (cc)
found_cut (found b h cut f w) e = record { row = cut; first = f; wrote = w; room = h }

module _ {s ix : List ℕ} {head : Head} (w : Told s ix head) where
  pub room_for : {counts : List ℕ} {stamps : List ℤ} → Room head.channels counts stamps → Room (head_of s).channels counts stamps
  room_for {counts} {stamps} = subst (λ n. Room n counts stamps) (ap (λ h. h.channels) w.head)

  -- the first places of the lent ones are the cut
  pub front_is : {c lent lent' : List ℕ} (u : CutFound s c lent lent') → take head.processes lent' ≡ u.row
  front_is u =
      let n = ap (λ h. h.processes) w.head in
      take_written head.processes (omega (arith, n, u.first.satisfies.is_cut.size, processes_are s w.index.listed.read)) (omega (arith, n, u.room)) u.wrote

  pub front_cut : {c lent lent' : List ℕ} → CutFound s c lent lent' → IsCut (run_in s) (take head.processes lent')
  front_cut u = subst (IsCut (run_in s)) (sym (front_is u)) u.first.satisfies.is_cut

  pub front_listed : {c lent lent' counts counts' : List ℕ} {stamps stamps' : List ℤ} → Room head.channels counts stamps → (u : CutFound s c lent lent') → Answered s c lent lent' (Ok O.Found)
      → Wrote (on_each (run_in s) (take head.processes lent')) counts counts' → WroteLowest (run_in s) (take head.processes lent') head.channels stamps stamps'
      → AnsweredListed s c lent lent' counts counts' stamps stamps' (Ok O.Found)
  front_listed {counts = counts} {counts'} {stamps} {stamps'} room u a v x =
      let n = ap (λ h. h.channels) w.head in
      listed (room_for room) a u.row u.first
      (subst (λ cut. Wrote (on_each (run_in s) cut) counts counts') (front_is u) v)
      (subst (λ n. WroteLowest (run_in s) u.row n stamps stamps') n (subst (λ cut. WroteLowest (run_in s) cut head.channels stamps stamps') (front_is u) x))

  -- with no place lent for the cut, the condition is refused, or else 15 is given; what is left of no places is put back in front of the others
  pub without_row : {c lent counts l l' : List ℕ} {stamps : List ℤ} {a : Result Outcome Refusal} → ¬ Room head.channels counts stamps → length l ≡ 0 → length l' ≡ 0 → Answered s c l l' a
      → AnsweredListed s c lent (l' ++ lent) counts counts stamps stamps a
  without_row {l' = x ∷ l'} g e e' answer = absurd (omega (arith, e'))
  without_row {c} {lent} {counts} {l} {l' = []} {stamps} g e e' answer = by_answer answer
    where
      some : 1 ≤ (head_of s).processes
      some = (ok s w.index.listed.read).head.some

      lacks : ¬ Room (head_of s).channels counts stamps
      lacks = subst (λ n. ¬ Room n counts stamps) (ap (λ h. h.channels) w.head) g

      by_answer : {l' : List ℕ} {a : Result Outcome Refusal} → Answered s c l l' a → AnsweredListed s c lent lent counts counts stamps stamps a
      by_answer (run_refused x j d) = absurd (not_refused j w.accepted)
      by_answer (cond_refused x j r d) = unlisted (Err x) (λ z. never (cc)) (λ b. let r' = b.cond in never (cc)) (cond_refused x j r refl) refl refl
      by_answer (few b h d) = few_row b lacks refl refl refl
      by_answer (none b h n d) = absurd (omega (arith, h, e, some))
      by_answer (found b h cut f v) = absurd (omega (arith, h, e, some))
