-- What an accepted record of a condition tells.
use mathlib.Core.Path.{◌≡◌, refl, ap}
use mathlib.Core.Logic.{◌⊎◌, inl, inr, ⊎_elim}
use mathlib.Core.Bool.{Bool, true, false, not, cond, ◌||◌}
use mathlib.Core.List.{List}
use Prim.Native.Nat.{ℕ, ◌+◌, ◌≤◌, ◌<◌}
use native.Mathlib.Omega.{arith}
use borrow.Author.Tests.{ltb-false, leb-false, eqb-true, eqb-false, ne_eqb, not-false}
use lib.Dec.{eqb}
use lib.ListN.{length}
use Rattle.model.proofs.Numbers.{never, positive}
use Rattle.model.specs.Clause.{mover}
use Rattle.record.specs.Bytes.{u16_at}
use Rattle.std.proofs.Common.{Result, Ok, Err}
use Rattle.record.specs.Refusal.{Check, passed, refuse_if, ◌then◌, at_fault, and_then}
use Rattle.record.specs.declared.reasons.Reason.{Reason}
use Rattle.record.specs.declared.reasons.Reason.TheVariants.{WrongLength, WrongKind, Limit, Name, Field, NotLinear}
use Rattle.record.specs.Record.{length_at, kind_at, check_frame}
use Rattle.record.specs.declared.Head.{Head}
use Rattle.record.specs.declared.File.TheVariants.{Condition}
use Rattle.record.proofs.Laws.{then_ok, refuse_if_ok, Framed, framed}
use Rattle.condition.specs.declared.Local.{Local}
use Rattle.condition.specs.declared.Test.{Test}
use Rattle.condition.specs.declared.Item.{Item}
use Rattle.condition.specs.declared.Item.TheVariants as I
use Rattle.condition.specs.Clauses.{test_of, local_at, test_at, held_at}
use Rattle.condition.specs.Kind.{NamesKind}
use Rattle.condition.specs.declared.kind.Kind.{Kind}
use Rattle.condition.specs.declared.kind.Kind.TheVariants as K
use Rattle.condition.specs.Items.{due, length_of, check_step, item_at, step_at}
use Rattle.condition.specs.Judge.{may_move, check_head, check_local, check_test, check_clause}
use Rattle.condition.specs.Known.{Whole, LocalKnown, TestKnown, ClauseKnown}

-- ---- a record that the step accepts

pub record ItemOpened (s : List ℕ) (at owed : ℕ) : Type 0 where
  pub frame : Framed s at
  pub kind : due at owed (kind_at s at) ≡ true
  pub size : length_at s at ≡ length_of (kind_at s at)

pub item_opened : (s : List ℕ) (at owed : ℕ) → check_step s at owed ≡ passed → ItemOpened s at owed
unfolding check_step
item_opened s at owed h =
    let a = then_ok _ _ h in
    let b = then_ok _ _ a.1 in
    record {
      frame = framed s at a.0;
      kind = not-false _ (refuse_if_ok _ WrongKind b.0);
      size = eqb-true _ _ (not-false _ (refuse_if_ok _ WrongLength b.1));
    }

-- a number that no kind has may stand nowhere
pub kindless : (s : List ℕ) (at owed : ℕ) → check_frame s at ≡ passed → {why : Reason} → NamesKind (kind_at s at) (Err why) → Err why ≡ check_step s at owed
unfolding check_step due refuse_if
kindless s at owed right (wrong, a, b, d, e) = rw wrong (simp (right, ne_eqb _ 4 a, ne_eqb _ 16 b, ne_eqb _ 17 d, ne_eqb _ 18 e) (go (eqb at 0) (eqb owed 0) _))
  where
    go : (x y : Bool) (rest : Check) → ◌≡◌ {A = Check} (Err WrongKind) (cond (not (cond x false (cond y false false))) (Err WrongKind) passed then rest)
    go true y rest = refl
    go false true rest = refl
    go false false rest = refl

-- a kind that is neither the head's nor the end's hasn't their numbers
pub other_kind : (n : ℕ) (r : Result Kind Reason) → NamesKind n r → (r ≡ Ok K.Head → ⊥) → (r ≡ Ok K.End → ⊥) → (n ≡ 16 → ⊥) × (n ≡ 4 → ⊥)
other_kind n (Ok K.Head) e head end = absurd (head refl)
other_kind n (Ok K.Local) e head end = (λ z. omega arith, λ z. omega arith)
other_kind n (Ok K.Channel) e head end = (λ z. omega arith, λ z. omega arith)
other_kind n (Ok K.End) e head end = absurd (end refl)
other_kind n (Err why) (wrong, a, b, d, e) head end = (b, a)

-- by where it stands: the head first, then the clauses that are owed, then the end
module _ (s : List ℕ) (at owed : ℕ) (o : check_step s at owed ≡ passed) where
  pub by_due : {P : Type 0} → (at ≡ 0 → kind_at s at ≡ 16 → P) → ((at ≡ 0 → ⊥) → owed ≡ 0 → kind_at s at ≡ 4 → P)
      → ((at ≡ 0 → ⊥) → (owed ≡ 0 → ⊥) → (kind_at s at ≡ 17) ⊎ (kind_at s at ≡ 18) → P) → P
  unfolding due
  by_due {P} head end clause = go (eqb at 0) refl (eqb owed 0) refl (eqb (kind_at s at) 17) refl (item_opened s at owed o).kind
    where
      go : (x : Bool) → eqb at 0 ≡ x → (y : Bool) → eqb owed 0 ≡ y → (z : Bool) → eqb (kind_at s at) 17 ≡ z
          → cond x (eqb (kind_at s at) 16) (cond y (eqb (kind_at s at) 4) (z || eqb (kind_at s at) 18)) ≡ true → P
      go true a y b z d k = head (eqb-true at 0 a) (eqb-true _ 16 k)
      go false a true b z d k = end (eqb-false at 0 a) (eqb-true owed 0 b) (eqb-true _ 4 k)
      go false a false b true d k = clause (eqb-false at 0 a) (eqb-false owed 0 b) (inl (eqb-true _ 17 d))
      go false a false b false d k = clause (eqb-false at 0 a) (eqb-false owed 0 b) (inr (eqb-true _ 18 k))

  -- its kind's record is there to its end
  pub whole_to : (k : ℕ) → kind_at s at ≡ k → at + length_of k ≤ length s
  whole_to k e = let w = item_opened s at owed o in rw (← e) (omega (arith, w.size, w.frame.whole))

  pub whole_head : kind_at s at ≡ 16 → at + 6 ≤ length s
  whole_head e = whole_to 16 e

  pub whole_clause : (kind_at s at ≡ 17) ⊎ (kind_at s at ≡ 18) → Whole s at
  whole_clause w = ⊎_elim
      (λ e. let l = whole_to 17 e in record { body = omega arith; local = λ z. l })
      (λ e. let l = whole_to 18 e in record { body = l; local = λ z. absurd (omega arith) })
      w

  -- a kind that is neither the head nor the end is a clause
  pub clause_kind : (kind_at s at ≡ 16 → ⊥) → (kind_at s at ≡ 4 → ⊥) → (kind_at s at ≡ 17) ⊎ (kind_at s at ≡ 18)
  clause_kind a b = by_due (λ z k. absurd (a k)) (λ z y k. absurd (b k)) (λ z y k. k)

  -- what stands there
  pub by_place : (P : Item → Type 0) → (at ≡ 0 → kind_at s at ≡ 16 → P (I.Head (u16_at s (at + 4)))) → ((at ≡ 0 → ⊥) → owed ≡ 0 → kind_at s at ≡ 4 → P I.End)
      → ((at ≡ 0 → ⊥) → (owed ≡ 0 → ⊥) → (kind_at s at ≡ 17) ⊎ (kind_at s at ≡ 18) → P (I.Clause (held_at s at))) → P (item_at s at)
  unfolding item_at
  by_place P head end clause = by_due
      (λ z k. rw k (head z k))
      (λ z y k. rw k (end z y k))
      (λ z y k. ⊎_elim (λ e. rw e (clause z y k)) (λ e. rw e (clause z y k)) k)

-- ---- a step that gives a record

pub record ItemStepped (s : List ℕ) (at owed next : ℕ) (r : Item) : Type 0 where
  pub opening : check_step s at owed ≡ passed
  pub item : r ≡ item_at s at
  pub further : at < next
  pub within : next ≤ length s

pub item_stepped : (s : List ℕ) (at owed next : ℕ) (r : Item) → step_at s at owed ≡ Ok (r, next) → ItemStepped s at owed next r
unfolding step_at
item_stepped s at owed next r e = go (check_step s at owed) refl e
  where
    go : (t : Check) → check_step s at owed ≡ t → and_then {B = Item × ℕ} (at_fault Condition at t) (λ u. Ok (item_at s at, at + length_at s at)) ≡ Ok (r, next)
        → ItemStepped s at owed next r
    go (Ok u) k e =
        let f = (item_opened s at owed k).frame in
        let same : ◌≡◌ {A = Item × ℕ} (r, next) (item_at s at, at + length_at s at) = cc in
        let n = ap (λ x. x.1) same in
        record { opening = k; item = ap (λ x. x.0) same; further = omega (arith, f.long); within = omega (arith, f.whole) }
    go (Err why) k e = never (cc)

-- ---- a record that is judged right

pub head_few : (clauses : ℕ) → check_head clauses ≡ passed → clauses ≤ 32
unfolding check_head
head_few clauses e = ltb-false _ _ (refuse_if_ok _ Limit e)

pub local_known : (h : Head) (l : Local) → check_local h l ≡ passed → LocalKnown h l
unfolding check_local
local_known h l e =
    let a = then_ok _ _ e in
    let b = then_ok _ _ a.1 in
    let d = then_ok _ _ b.1 in
    record {
      process = leb-false _ _ (refuse_if_ok _ Name a.0);
      value = leb-false _ _ (refuse_if_ok _ Name b.0);
      some = positive (eqb-false _ 0 (refuse_if_ok _ Field d.0));
      known = ltb-false _ _ (refuse_if_ok _ Field d.1);
    }

-- 8 and 9 name nobody
moves : (n x : ℕ) → may_move (mover (test_of n x) 0) ≡ true → n ≤ 9 → n ≤ 7
unfolding test_of
moves n x e l = seven n l (λ z. nobody 8 z refl) (λ z. nobody 9 z refl)
  where
    nobody : (m : ℕ) → n ≡ m → may_move (mover (test_of m x) 0) ≡ false → ⊥
    nobody m z k = let y = rw z at e in never (cc)

    seven : (n : ℕ) → n ≤ 9 → (n ≡ 8 → ⊥) → (n ≡ 9 → ⊥) → n ≤ 7
    seven n l a b = omega arith

pub test_known : (h : Head) (t : Test) → check_test h t ≡ passed → TestKnown h t
unfolding check_test
test_known h t e =
    let a = then_ok _ _ e in
    let b = then_ok _ _ a.1 in
    let d = then_ok _ _ b.1 in
    record {
      channel = leb-false _ _ (refuse_if_ok _ Name a.0);
      some = positive (eqb-false _ 0 (refuse_if_ok _ Field b.0));
      linear = moves _ _ (not-false _ (refuse_if_ok _ NotLinear d.1)) (ltb-false _ _ (refuse_if_ok _ Field d.0));
    }

pub clause_known : (s : List ℕ) (h : Head) (at owed : ℕ) → check_step s at owed ≡ passed → (kind_at s at ≡ 17) ⊎ (kind_at s at ≡ 18) → check_clause h (held_at s at) ≡ passed
    → ClauseKnown s h at
unfolding held_at
clause_known s h at owed o w n = record {
  whole = whole_clause s at owed o w;
  kind = w;
  local = λ z. local_known h (local_at s at) (rw z at n);
  channel = λ z. test_known h (test_at s at) (rw z at n);
}
