-- An accepted run and an accepted condition: what the search is given, and what it tells of the condition's clauses.
use Rattle.std.proofs.Common.{Result, Ok}
use Rattle.record.specs.declared.Refusal.{Refusal}
use mathlib.Core.Path.{◌≡◌, sym, ap, subst}
use mathlib.Core.List.{List}
use Prim.Native.Nat.{ℕ}
use lib.ListN.{length, take}
use Rattle.model.specs.Clause.{Satisfies, First}
use Rattle.model.proofs.Numbers.{never}
use Rattle.record.specs.Record.{head_of}
use Rattle.record.specs.declared.Head.{Head}
use Rattle.run.specs.Said.{run_in}
use Rattle.run.specs.Index.{IndexHolds}
use Rattle.condition.specs.Clauses.{clauses_of}
use Rattle.condition.specs.Known.{ConditionKnown}
use Rattle.record.specs.Pass.{places_in}
use Rattle.condition.specs.Inner.{ConditionPassed}
use Rattle.condition.specs.Read.{read_of, clauses_in}
use Rattle.condition.specs.Known.{clauses_for}
use Rattle.condition.proofs.Accepted.{condition_known}
use Rattle.condition.proofs.Told.{condition_accepted, clauses_placed}
use Rattle.search.specs.declared.Outcome.{Outcome}
use Rattle.search.specs.declared.Outcome.TheVariants as S
use Rattle.search.specs.Search.{Given, Searched}
use Rattle.search.specs.Search.Searched.{found, none}
use Rattle.search.specs.Prepared.{Prepared}

-- from the reading of the condition
pub condition_prepared : (s c : List ℕ) (head : Head) (same : head ≡ head_of s) {ix row : List ℕ} {r : Result ℕ Refusal} → ConditionPassed (read_of c head) r row
    → (count : ℕ) → r ≡ Ok count → length row ≡ 32 → IndexHolds s ix → Prepared s c ix (take count row)
condition_prepared s c head same p count told long w =
    record { index = w; condition = condition_accepted s c head same p count told long; places = clauses_placed s c head same p count told long }

module _ {s c ix qs : List ℕ} (p : Prepared s c ix qs) where
  pub given : Given s c ix qs
  given = record { index = p.index; known = subst (ConditionKnown c (head_of s)) (sym p.places) (condition_known c (head_of s) (places_in (read_of c (head_of s))) p.condition) }

  -- the clauses at the places are the condition's
  pub clauses_are : clauses_of c qs ≡ clauses_for s c
  unfolding clauses_in
  clauses_are = ap (clauses_of c) p.places

  pub searched_found : {cut : List ℕ} {a : Outcome} → Searched (run_in s) (clauses_of c qs) cut a → a ≡ S.Found → First (run_in s) (clauses_for s c) cut
  searched_found {cut} (found w) e = subst (λ k. First (run_in s) k cut) clauses_are w
  searched_found (none w) e = never (cc)

  pub searched_none : {cut : List ℕ} {a : Outcome} → Searched (run_in s) (clauses_of c qs) cut a → a ≡ S.NoCut → (d : List ℕ) → ¬ Satisfies (run_in s) (clauses_for s c) d
  searched_none (found w) e = never (cc)
  searched_none (none w) e = subst (λ k. (d : List ℕ) → ¬ Satisfies (run_in s) k d) clauses_are w
