-- The pass over a condition so far: what is left from here gives the whole, and the row holds the places of the clauses so far.
use mathlib.Core.Path.{◌≡◌, refl, sym, ap, ◌∙◌}
use mathlib.Core.Logic.{⊎_elim}
use mathlib.Core.Bool.{false}
use mathlib.Core.List.{List, [], ◌∷◌, ◌++◌}
use Prim.Native.Nat.{ℕ, ◌+◌, ◌≤◌, ◌<◌}
use native.Mathlib.Nat.{eq-or-lt_of_le}
use native.Mathlib.Omega.{arith}
use lib.ListN.{length, get_or, set, length-append, get_or-append}
use lib.Seq.{get_or-append_seam, get_or-set_same, get_or-set_other}
use Rattle.model.proofs.Numbers.{never}
use Rattle.std.proofs.Common.{Ok, Err}
use Rattle.record.specs.Pass.{Read}
use Rattle.record.specs.Refusal.{passed}
use Rattle.record.specs.declared.Head.{Head}
use Rattle.record.specs.declared.Refusal.{Refusal}
use Rattle.record.proofs.Pass.{Here, here_start, here_more}
use Rattle.condition.specs.declared.Item.{Item}
use Rattle.condition.specs.declared.Item.TheVariants as I
use Rattle.condition.specs.Items.{step_at}
use Rattle.condition.specs.Judge.{check_item}
use Rattle.condition.specs.Read.{more, owing, is_end, condition_pass}
use Rattle.condition.specs.Inner.{ClauseRoomy, ClauseNoted, reading, ConditionPassed}
use Rattle.condition.proofs.Laws.{by_place, item_stepped}
use Rattle.condition.proofs.Accepted.{ConditionAlong, along_start, along_next}

-- the row holds these places, and count says how many they are
pub record RowHolds (qs ps : List ℕ) (count : ℕ) : Type 0 where
  pub counted : count ≡ length qs
  pub placed : (k : ℕ) → k < length qs → get_or ps k 0 ≡ get_or qs k 0

placed_more : (qs ps : List ℕ) (count at : ℕ) → RowHolds qs ps count → count < length ps → RowHolds (qs ++ (at ∷ [])) (set ps count at) (count + 1)
placed_more qs ps count at w l = record { counted = omega (arith, longer, w.counted); placed = each }
  where
    longer : length (qs ++ (at ∷ [])) ≡ length qs + 1
    longer = length-append qs (at ∷ [])

    each : (k : ℕ) → k < length (qs ++ (at ∷ [])) → get_or (set ps count at) k 0 ≡ get_or (qs ++ (at ∷ [])) k 0
    each k h = ⊎_elim last before (eq-or-lt_of_le (bound h))
      where
        bound : k < length (qs ++ (at ∷ [])) → k ≤ length qs
        bound h = omega (arith, longer)

        last : k ≡ length qs → get_or (set ps count at) k 0 ≡ get_or (qs ++ (at ∷ [])) k 0
        last z =
            let here : k ≡ count = z ∙ sym w.counted in
            ap (λ i. get_or (set ps count at) i 0) here ∙ get_or-set_same ps count at 0 l
            ∙ sym (get_or-append_seam qs at [] 0) ∙ ap (λ i. get_or (qs ++ (at ∷ [])) i 0) (sym z)

        before : k < length qs → get_or (set ps count at) k 0 ≡ get_or (qs ++ (at ∷ [])) k 0
        before z = get_or-set_other ps count k at 0 (λ y. omega (arith, w.counted)) ∙ w.placed k z ∙ sym (get_or-append qs (at ∷ []) 0 k z)

pub no_end : (r : Item) → (r ≡ I.End → ⊥) → is_end r ≡ false
no_end (I.Head clauses) n = refl
no_end (I.Clause c) n = refl
no_end I.End n = absurd (n refl)

pub record RowSoFar (s : List ℕ) (h : Head) (ps : List ℕ) (at owed count : ℕ) : Type 0 where
  pub clauses : List ℕ
  pub here : Here (condition_pass s h) at (owed, clauses)
  pub along : ConditionAlong s h at (owed, clauses)
  pub row : RowHolds clauses ps count

pub so_far_start : (s : List ℕ) (h : Head) (ps : List ℕ) → RowSoFar s h ps 0 0 0
so_far_start s h ps = record {
  clauses = [];
  here = here_start (condition_pass s h);
  along = along_start s h;
  row = record { counted = refl; placed = λ k l. absurd (omega arith) };
}

module _ (s : List ℕ) (h : Head) (ps : List ℕ) (at owed count : ℕ) (w : RowSoFar s h ps at owed count) where
  abbrev qs : List ℕ
  qs = w.clauses

  module _ (next : ℕ) (r : Item) (g : step_at s at owed ≡ Ok (r, next)) where
    -- what keeping a clause's place requires
    pub so_far_roomy : ClauseRoomy r owed count
    so_far_roomy =
        let d = item_stepped s at owed next r g in
        rw d.item (by_place s at owed d.opening (λ r. ClauseRoomy r owed count)
        (λ z k. tt)
        (λ z y k. tt)
        (λ z y k. (omega arith, omega (arith, w.along.room, w.row.counted))))

    -- a record that isn't the end, and what is noted of it
    row_of : length ps ≡ 32 → (r : Item) → ClauseRoomy r owed count → (count' : ℕ) (ps' : List ℕ) → ClauseNoted r at count ps count' ps'
        → RowHolds (more r at qs) ps' count'
    row_of long (I.Head clauses) m count' ps' v = rw (v.0, v.1) w.row
    row_of long (I.Clause c) m count' ps' v = rw (v.0, v.1) (placed_more qs ps count at w.row (omega (arith, m.1)))
    row_of long I.End m count' ps' v = rw (v.0, v.1) w.row

    pub so_far_more : check_item h r ≡ passed → is_end r ≡ false → length ps ≡ 32 → (count' : ℕ) (ps' : List ℕ) → ClauseNoted r at count ps count' ps'
        → RowSoFar s h ps' next (owing r owed) count'
    so_far_more n e long count' ps' v = let d = item_stepped s at owed next r g in record {
      clauses = more r at qs;
      here = here_more (condition_pass s h) w.here r next g n e d.further d.within;
      along = along_next s h at next _ r w.along g n e;
      row = row_of long r so_far_roomy count' ps' v;
    }

-- ---- the pass's answer at each way out

pub passed_refused : {v : Read} (x : Refusal) (ps : List ℕ) → v ≡ Err x → ConditionPassed v (Err x) ps
passed_refused x ps e = record { answer = sym (ap reading e); placed = λ qs z. never (cc) }

pub passed_end : {v : Read} (qs ps : List ℕ) (count : ℕ) → RowHolds qs ps count → v ≡ Ok qs → ConditionPassed v (Ok count) ps
passed_end qs ps count w e = record {
  answer = ap Ok w.counted ∙ sym (ap reading e);
  placed = λ qs' z. let same : qs ≡ qs' = cc in rw (← same) w.placed;
}
