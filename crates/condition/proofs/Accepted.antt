-- What a condition that the pass accepts is: few clauses, each of them right, and so linear.
use mathlib.Core.Path.{◌≡◌, refl, sym, subst}
use mathlib.Core.Logic.{⊎_elim}
use mathlib.Core.Bool.{Bool, true, false, cond}
use mathlib.Core.List.{List, [], ◌∷◌, ◌++◌}
use Prim.Native.Nat.{ℕ, zero, suc, ◌+◌, ◌≤◌, ◌<◌}
use native.Mathlib.Nat.{eq-or-lt_of_le}
use native.Mathlib.Omega.{arith}
use lib.Dec.{T, ltb}
use lib.ListN.{length, get_or, length-append, length-map, get_or-append}
use lib.Seq.{get_or-append_seam}
use Rattle.model.proofs.Numbers.{never}
use Rattle.model.specs.Clause.{Clause, every_of}
use Rattle.model.specs.Linear.{linear, Linear}
use Rattle.model.specs.Clause.Clause.{on}
use Rattle.model.specs.declared.Mover.TheVariants.{Sender, Receiver, NotLinear}
use Rattle.model.proofs.Lists.{T_and}
use Rattle.std.proofs.Common.{Ok}
use Rattle.record.specs.Refusal.{passed}
use Rattle.record.specs.declared.Head.{Head}
use Rattle.record.proofs.Pass.{accepted_holds}
use Rattle.condition.specs.declared.Local.{Local}
use Rattle.condition.specs.declared.Test.{Test}
use Rattle.condition.specs.declared.Clause.TheVariants as C
use Rattle.condition.specs.declared.Item.{Item}
use Rattle.condition.specs.Clauses.{test_of, local_at, test_at, held_at, clauses_of}
use Rattle.condition.specs.Known.{clause_at}
use Rattle.condition.specs.Items.{step_at}
use Rattle.condition.specs.Judge.{check_item}
use Rattle.condition.specs.Read.{is_end, condition_pass, read_of, clauses_in}
use Rattle.condition.specs.Known.{LocalKnown, TestKnown, ClauseKnown, ConditionKnown}
use Rattle.condition.proofs.Laws.{by_place, item_stepped, head_few, clause_known}

module _ (s : List ℕ) (h : Head) where
  -- ---- what holds along the pass

  pub record ConditionAlong (at : ℕ) (k : ℕ × List ℕ) : Type 0 where
    pub start : at ≡ 0 → length k.1 ≡ 0
    pub room : k.0 + length k.1 ≤ 32
    pub clauses : (i : ℕ) → i < length k.1 → ClauseKnown s h (get_or k.1 i 0)

  pub along_start : ConditionAlong 0 (condition_pass s h).start
  along_start = record { start = λ e. refl; room = omega arith; clauses = λ i l. absurd (omega arith) }

  -- one more clause
  clause_more : (at : ℕ) (qs : List ℕ) → ClauseKnown s h at → ((k : ℕ) → k < length qs → ClauseKnown s h (get_or qs k 0))
      → (k : ℕ) → k < length (qs ++ (at ∷ [])) → ClauseKnown s h (get_or (qs ++ (at ∷ [])) k 0)
  clause_more at qs new w k l = ⊎_elim
      (λ z. subst (λ i. ClauseKnown s h (get_or (qs ++ (at ∷ [])) i 0)) (sym z) (rw (get_or-append_seam qs at [] 0) new))
      (λ z. rw (get_or-append qs (at ∷ []) 0 k z) (w k z))
      (eq-or-lt_of_le (bound l))
    where
      bound : k < length (qs ++ (at ∷ [])) → k ≤ length qs
      bound l = omega (arith, length-append qs (at ∷ []))

  -- behind any record but the end
  pub along_next : (at next : ℕ) (k : ℕ × List ℕ) (r : Item) → ConditionAlong at k → step_at s at k.0 ≡ Ok (r, next) → check_item h r ≡ passed → is_end r ≡ false
      → ConditionAlong next ((condition_pass s h).more r at k)
  along_next at next k r w g =
      let d = item_stepped s at k.0 next r g in
      let past : next ≡ 0 → ⊥ = λ z. omega (arith, d.further) in
      let Behind : Item → Type 0 = λ r. check_item h r ≡ passed → is_end r ≡ false → ConditionAlong next ((condition_pass s h).more r at k) in
      subst Behind (sym d.item) (by_place s at k.0 d.opening Behind
      (λ z y n e. record { start = λ x. absurd (past x); room = omega (arith, head_few _ n, w.start z); clauses = w.clauses })
      (λ z y m n e. never (cc))
      (λ z y m n e. record {
        start = λ x. absurd (past x);
        room = omega (arith, w.room, length-append k.1 (at ∷ []), y);
        clauses = clause_more at k.1 (clause_known s h at k.0 d.opening m n) w.clauses;
      }))

  -- ---- what an accepted condition is

  pub condition_known : (qs : List ℕ) → read_of s h ≡ Ok qs → ConditionKnown s h qs
  unfolding read_of
  condition_known qs e =
      let w = accepted_holds (condition_pass s h) ConditionAlong (λ qs. length s ≤ 65535 → ConditionKnown s h qs) along_next
      (λ at next k r w g n i l short. record { short = short; few = omega (arith, w.room); clauses = w.clauses }) along_start qs e in
      w.1 w.0

  -- ---- and so it is linear

  test_linear : (n x : ℕ) → 1 ≤ n → n ≤ 7 → T (linear (on 0 (test_of n x)))
  unfolding test_of
  test_linear n x a b = go n a b
    where
      three : (t : Bool) → T (elim (cond t Sender Receiver) [ Sender ↦ true | Receiver ↦ true | NotLinear ↦ false ])
      three true = tt
      three false = tt

      go : (n : ℕ) → 1 ≤ n → n ≤ 7 → T (linear (on 0 (test_of n x)))
      go zero a b = absurd (omega arith)
      go (suc zero) a b = tt
      go (suc (suc zero)) a b = tt
      go (suc (suc (suc zero))) a b = three (ltb 0 x)
      go (suc (suc (suc (suc zero)))) a b = tt
      go (suc (suc (suc (suc (suc zero))))) a b = tt
      go (suc (suc (suc (suc (suc (suc zero)))))) a b = tt
      go (suc (suc (suc (suc (suc (suc (suc zero))))))) a b = tt
      go (suc (suc (suc (suc (suc (suc (suc (suc n)))))))) a b = absurd (omega arith)

  clause_linear : (at : ℕ) → ClauseKnown s h at → T (linear (clause_at s at))
  unfolding held_at
  clause_linear at w = ⊎_elim
      (λ e. rw e tt)
      (λ e. let t = w.channel e in rw e (test_linear _ _ t.some t.linear))
      w.kind

  pub known_linear : (qs : List ℕ) → ((k : ℕ) → k < length qs → ClauseKnown s h (get_or qs k 0)) → Linear (clauses_of s qs)
  unfolding clauses_of
  known_linear [] w = tt
  known_linear (q ∷ qs) w =
      T_and (linear (clause_at s q)) (every_of linear (clauses_of s qs)) (clause_linear q (w 0 (omega arith))) (known_linear qs (λ k l. w (suc k) (omega arith)))

  pub condition_linear : (qs : List ℕ) → read_of s h ≡ Ok qs → Linear (clauses_of s qs)
  condition_linear qs e = known_linear qs (condition_known qs e).clauses

  -- ---- the clauses one by one

  -- what code holds of a clause is right
  pub held_local : (at : ℕ) (l : Local) → ClauseKnown s h at → held_at s at ≡ C.Local l → LocalKnown h l
  unfolding held_at
  held_local at l w e = ⊎_elim
      (λ k. let y = rw k at e in let z : local_at s at ≡ l = cc in subst (LocalKnown h) z (w.local k))
      (λ k. let y = rw k at e in never (cc))
      w.kind

  pub held-channel : (at : ℕ) (t : Test) → ClauseKnown s h at → held_at s at ≡ C.Channel t → TestKnown h t
  unfolding held_at
  held-channel at t w e = ⊎_elim
      (λ k. let y = rw k at e in never (cc))
      (λ k. let y = rw k at e in let z : test_at s at ≡ t = cc in subst (TestKnown h) z (w.channel k))
      w.kind

  -- the clauses that the bytes say
  pub clauses-in : (qs : List ℕ) → read_of s h ≡ Ok qs → clauses_in s h ≡ clauses_of s qs
  unfolding clauses_in
  clauses-in qs e = rw e

  pub clauses_length : (qs : List ℕ) → length (clauses_of s qs) ≡ length qs
  unfolding clauses_of
  clauses_length qs = length-map qs (clause_at s)

  pub clauses_at : (qs : List ℕ) (k : ℕ) (d : Clause) → k < length qs → get_or (clauses_of s qs) k d ≡ clause_at s (get_or qs k 0)
  unfolding clauses_of
  clauses_at [] k d l = absurd (omega arith)
  clauses_at (q ∷ qs) zero d l = refl
  clauses_at (q ∷ qs) (suc k) d l = clauses_at qs k d (omega arith)
