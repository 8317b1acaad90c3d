-- What chains of tests, and an opening or a step that is not refused, tell.
use mathlib.Core.Path.{◌≡◌, refl}
use mathlib.Core.Bool.{Bool, true, false, not, cond, ◌||◌}
use mathlib.Core.List.{List}
use Prim.Native.Nat.{ℕ, ◌+◌, ◌-◌, ◌≤◌, ◌<◌}
use native.Mathlib.Omega.{arith}
use borrow.Author.Tests.{ltb-true, ltb-false, eqb-true, eqb-false, ne_eqb, not-false}
use lib.Dec.{eqb, ltb}
use lib.ListN.{length}
use Rattle.record.specs.Inner.{states_place}
use Rattle.std.specs.Prelude.{⊤}
use Rattle.std.proofs.Common.{Ok, Err}
use Rattle.model.proofs.Numbers.{never}
use Rattle.record.specs.Refusal.{Check, passed, refuse_if, ◌then◌, refusal, at_fault}
use Rattle.record.specs.declared.File.{File}
use Rattle.record.specs.declared.Refusal.{Refusal}
use Rattle.record.specs.Kind.{NamesKind}
use Rattle.record.specs.declared.reasons.Reason.{Reason}
use Rattle.record.specs.declared.reasons.Reason.TheVariants.{WrongKind, WrongLength}
use Rattle.record.specs.declared.Record.{Record}
use Rattle.record.specs.declared.Record.TheVariants as R
use Rattle.record.specs.Record.{length_at, kind_at, length_of, check_frame, head_of, due, check_opening, check_step, channel_fields_at, state_fields_at, record_at}

-- ---- chains

-- a test that refuses nothing is false, and a chain that refuses nothing refused nothing at any link
pub refuse_if_ok : (t : Bool) (r : Reason) → refuse_if t r ≡ passed → t ≡ false
unfolding refuse_if
refuse_if_ok true r e = never (cc)
refuse_if_ok false r e = refl

pub then_ok : (a b : Check) → a then b ≡ passed → (a ≡ passed) × (b ≡ passed)
then_ok (Ok u) b e = (refl, e)
then_ok (Err r) b e = never (cc)

pub then_refuse_ok : (a : Check) (t : Bool) (r : Reason) → a then refuse_if t r ≡ passed → (a ≡ passed) × (t ≡ false)
then_refuse_ok a t r e = let h = then_ok a (refuse_if t r) e in (h.0, refuse_if_ok t r h.1)

-- what a record's refusal tells of its tests, and what no refusal tells
pub faulty : (f : File) (p : ℕ) (check : Check) (x : Refusal) → at_fault f p check ≡ Err x → (why : Reason) × (check ≡ Err why) × (x ≡ refusal f why p)
faulty f p (Ok u) x e = never (cc)
faulty f p (Err r) x e = (r, refl, cc)

pub not_faulty : (f : File) (p : ℕ) (check : Check) (u : ⊤) → at_fault f p check ≡ Ok u → check ≡ passed
not_faulty f p (Ok u) v e = refl
not_faulty f p (Err r) v e = never (cc)

-- ---- an opening that is right

pub record Framed (s : List ℕ) (at : ℕ) : Type 0 where
  pub long : 4 ≤ length_at s at
  pub whole : at + length_at s at ≤ length s

pub framed : (s : List ℕ) (at : ℕ) → check_frame s at ≡ passed → Framed s at
unfolding check_frame
framed s at h =
    let a = then_ok _ _ h in
    let b = then_ok _ _ a.1 in
    let x : 2 ≤ length s - at = ltb-false _ _ (refuse_if_ok _ _ a.0) in
    let z : 4 ≤ length_at s at = ltb-false _ _ (refuse_if_ok _ _ b.0) in
    let y : length_at s at ≤ length s - at = ltb-false _ _ (refuse_if_ok _ _ b.1) in
    record { long = z; whole = omega arith }

pub record Opened (s : List ℕ) (at : ℕ) : Type 0 where
  pub frame : Framed s at
  pub kind : due (head_of s) at (kind_at s at) ≡ true
  pub size : length_at s at ≡ length_of (kind_at s at) (head_of s)

pub opened : (s : List ℕ) (at : ℕ) → check_opening s at ≡ passed → Opened s at
unfolding check_opening
opened s at h =
    let a = then_ok _ _ h in
    let b = then_ok _ _ a.1 in
    record { frame = framed s at a.0; kind = not-false _ (refuse_if_ok _ _ b.0); size = eqb-true _ _ (not-false _ (refuse_if_ok _ _ b.1)) }

-- a number that no kind has may stand nowhere
pub kindless : (s : List ℕ) (at : ℕ) → check_frame s at ≡ passed → {why : Reason} → NamesKind (kind_at s at) (Err why) → Err why ≡ check_opening s at
unfolding check_opening due refuse_if
kindless s at right (wrong, a, b, d, e) = rw wrong (simp (right, ne_eqb _ 1 a, ne_eqb _ 2 b, ne_eqb _ 3 d, ne_eqb _ 4 e) (go (eqb at 0) (ltb at (states_place (head_of s)))))
  where
    go : (x y : Bool) → ◌≡◌ {A = Check} (Err WrongKind) (cond (not (cond x false (cond y false false))) (Err WrongKind) passed then refuse_if (not (eqb (length_at s at) (length_of (kind_at s at) (head_of s)))) WrongLength)
    go true y = refl
    go false true = refl
    go false false = refl

-- and so a kind's record is there to its end
pub opened_whole : (s : List ℕ) (at kind : ℕ) → check_opening s at ≡ passed → kind_at s at ≡ kind → at + length_of kind (head_of s) ≤ length s
opened_whole s at kind h e = let o = opened s at h in rw (← e) (omega (arith, o.size, o.frame.whole))

pub step_opened : (s : List ℕ) (at : ℕ) → check_step s at ≡ passed → check_opening s at ≡ passed
unfolding check_step
step_opened s at h = (then_ok _ _ h).0

-- ---- what stands at a place whose opening is right, by where it stands

module _ (s : List ℕ) (at : ℕ) (P : Record → Type 0) where
  -- by the kind alone
  by_kind : (kind_at s at ≡ 1 → P (R.Head (head_of s))) → (kind_at s at ≡ 2 → P (R.Channel (channel_fields_at s at)))
      → (kind_at s at ≡ 3 → P (R.State (state_fields_at s at)))
      → ((kind_at s at ≡ 1 → ⊥) → (kind_at s at ≡ 2 → ⊥) → (kind_at s at ≡ 3 → ⊥) → P R.End) → P (record_at s at)
  unfolding record_at
  by_kind f g h e = go (eqb (kind_at s at) 1) refl (eqb (kind_at s at) 2) refl (eqb (kind_at s at) 3) refl
    where
      go : (x : Bool) → eqb (kind_at s at) 1 ≡ x → (y : Bool) → eqb (kind_at s at) 2 ≡ y → (z : Bool) → eqb (kind_at s at) 3 ≡ z
          → P (cond x (R.Head (head_of s)) (cond y (R.Channel (channel_fields_at s at)) (cond z (R.State (state_fields_at s at)) R.End)))
      go true a y b z d = f (eqb-true _ 1 a)
      go false a true b z d = g (eqb-true _ 2 b)
      go false a false b true d = h (eqb-true _ 3 d)
      go false a false b false d = e (eqb-false _ 1 a) (eqb-false _ 2 b) (eqb-false _ 3 d)

  -- the head stands first, then the channels, then states and the end
  pub by_place : check_opening s at ≡ passed → (at ≡ 0 → kind_at s at ≡ 1 → P (R.Head (head_of s)))
      → (at < states_place (head_of s) → (at ≡ 0 → ⊥) → kind_at s at ≡ 2 → P (R.Channel (channel_fields_at s at)))
      → (states_place (head_of s) ≤ at → (at ≡ 0 → ⊥) → kind_at s at ≡ 3 → P (R.State (state_fields_at s at)))
      → (states_place (head_of s) ≤ at → (at ≡ 0 → ⊥) → kind_at s at ≡ 4 → P R.End) → P (record_at s at)
  unfolding due
  by_place w head channel state end = go (eqb at 0) refl (ltb at (states_place (head_of s))) refl (opened s at w).kind
    where
      go : (x : Bool) → eqb at 0 ≡ x → (y : Bool) → ltb at (states_place (head_of s)) ≡ y
          → cond x (eqb (kind_at s at) 1) (cond y (eqb (kind_at s at) 2) (eqb (kind_at s at) 3 || eqb (kind_at s at) 4)) ≡ true → P (record_at s at)
      go true a y b k = let e = eqb-true _ 1 k in by_kind
          (λ z. head (eqb-true at 0 a) z) (λ z. absurd (omega arith)) (λ z. absurd (omega arith)) (λ z u v. absurd (z e))
      go false a true b k = let e = eqb-true _ 2 k in by_kind
          (λ z. absurd (omega arith)) (λ z. channel (ltb-true _ _ b) (eqb-false at 0 a) z) (λ z. absurd (omega arith)) (λ z u v. absurd (u e))
      go false a false b k = go_last (eqb (kind_at s at) 3) refl k
        where
          go_last : (z : Bool) → eqb (kind_at s at) 3 ≡ z → (z || eqb (kind_at s at) 4) ≡ true → P (record_at s at)
          go_last true d k = let e = eqb-true _ 3 d in by_kind
              (λ z. absurd (omega arith)) (λ z. absurd (omega arith)) (λ z. state (ltb-false _ _ b) (eqb-false at 0 a) z) (λ z u v. absurd (v e))
          go_last false d k = let e = eqb-true _ 4 k in by_kind
              (λ z. absurd (omega arith)) (λ z. absurd (omega arith)) (λ z. absurd (omega arith))
              (λ z u v. end (ltb-false _ _ b) (eqb-false at 0 a) e)
