-- What a caller takes from the reading of a condition: its refusal, or the places of its clauses in the lent row.
use mathlib.Core.Path.{◌≡◌, refl, ap, ◌∙◌, subst}
use mathlib.Core.List.{List}
use Prim.Native.Nat.{ℕ, ◌≤◌, ◌<◌}
use native.Mathlib.Omega.{arith}
use lib.ListN.{length, get_or, take}
use lib.Seq.{ext_get_or, get_or-take, length-take-le}
use Rattle.model.proofs.Numbers.{never}
use Rattle.record.specs.Record.{head_of}
use Rattle.record.specs.declared.Head.{Head}
use Rattle.record.specs.declared.Refusal.{Refusal}
use Rattle.std.proofs.Common.{Result, Ok, Err}
use Rattle.record.specs.Pass.{Read, places_in}
use Rattle.condition.specs.Inner.{ConditionPassed}
use Rattle.condition.specs.Read.{read_of}
use Rattle.condition.specs.Accepted.{ConditionAccepted}
use Rattle.condition.proofs.Accepted.{condition_known}

refused_by : (v : Read) {r : Result ℕ Refusal} {row : List ℕ} (x : Refusal) → ConditionPassed v r row → r ≡ Err x → v ≡ Err x
refused_by (Err y) x p e = let d = p.answer in let z : y ≡ x = cc in ap Err z
refused_by (Ok qs) x p e = let d = p.answer in never (cc)

-- the front of the row has the places
record Front (v : Read) (row : List ℕ) (count : ℕ) : Type 0 where
  accepts : v ≡ Ok (places_in v)
  counted : count ≡ length (places_in v)
  each : (i : ℕ) → i < count → get_or row i 0 ≡ get_or (places_in v) i 0

accepted_by : (v : Read) {r : Result ℕ Refusal} {row : List ℕ} (count : ℕ) → ConditionPassed v r row → r ≡ Ok count → Front v row count
accepted_by (Err y) count p e = let d = p.answer in never (cc)
accepted_by (Ok qs) count p e =
    let d = p.answer in
    let z : count ≡ length qs = cc in
    record { accepts = refl; counted = z; each = λ i h. p.placed qs refl i (omega arith) }

module _ (s c : List ℕ) (head : Head) (same : head ≡ head_of s) {r : Result ℕ Refusal} {row : List ℕ} (p : ConditionPassed (read_of c head) r row) where
  beside : ConditionPassed (read_of c (head_of s)) r row
  beside = subst (λ h. ConditionPassed (read_of c h) r row) same p

  pub condition-refused : (x : Refusal) → r ≡ Err x → read_of c (head_of s) ≡ Err x
  condition-refused x e = refused_by (read_of c (head_of s)) x beside e

  module _ (count : ℕ) (told : r ≡ Ok count) (long : length row ≡ 32) where
    front : Front (read_of c (head_of s)) row count
    front = accepted_by (read_of c (head_of s)) count beside told

    pub condition_accepted : ConditionAccepted s c
    condition_accepted = front.accepts

    -- the row has room for the clauses
    pub clauses_few : count ≤ length row
    clauses_few = omega (arith, long, front.counted, (condition_known c (head_of s) (places_in (read_of c (head_of s))) front.accepts).few)

    pub clauses_placed : take count row ≡ places_in (read_of c (head_of s))
    clauses_placed = ext_get_or 0 (take count row) (places_in (read_of c (head_of s))) (size ∙ front.counted) (λ i h. let l : i < count = omega (arith, size) in get_or-take count row i 0 l ∙ front.each i l)
      where
        size : length (take count row) ≡ count
        size = length-take-le count row clauses_few
