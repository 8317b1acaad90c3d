-- Who is named has to move; and the cut of the elimination is at or below every satisfying cut.
use mathlib.Core.Path.{◌≡◌, refl, sym, ◌∙◌, subst}
use mathlib.Core.Bool.{Bool, true, false, not}
use mathlib.Core.List.Memᴰ
use mathlib.Core.List.{List, [], ◌∷◌, map, Memᴰ}
use Prim.Native.Nat.{ℕ, zero, suc, ◌+◌, ◌-◌, ◌≤◌, ◌<◌}
use native.Mathlib.Decide.{ℕ_discrete}
use native.Mathlib.Numerals.{add-one}
use native.Mathlib.Omega.{arith}
use lib.Dec.{T}
use lib.ListN.{length, get_or, set, replicate, length-set}
use lib.Seq.{get_or-set_same, get_or-set_other}
use Rattle.model.proofs.Numbers.{never}
use Rattle.model.specs.Run.{Run, processes, count, IsState}
use Rattle.model.specs.Cut.{at, IsCut}
use Rattle.model.specs.Clause.{Test, Clause, holds, Satisfies}
use Rattle.model.specs.Linear.{Linear}
use Rattle.model.proofs.Search.{Under, Moves, move-on, run_out, arrive, clock_moves, ones_cut, ones_under, all_tested}
use Rattle.model.specs.Total.{total}
use Rattle.model.proofs.Total.{total-set, total_few}
use Rattle.record.specs.Record.{head_of}
use Rattle.run.specs.Said.{run_in}
use Rattle.run.specs.Index.{clock_in}
use Rattle.run.proofs.Listed.{ok, processes_are}
use Rattle.condition.specs.Clauses.{clauses_of}
use Rattle.condition.specs.Known.{clause_at}
use Rattle.condition.proofs.Accepted.{known_linear}
use Rattle.std.specs.Prelude.{Option, Some, None, MatchOption}
use Rattle.cut.specs.Clocks.{too_low, InTable}
use Rattle.cut.proofs.Low.{too_low_found, nobody_by_clock, cut_in_table}
use Rattle.search.specs.declared.Outcome.TheVariants as A
use Rattle.search.specs.Search.{Given, EndNamed, Tested, is_local, Tried, KindTested, Lowest, LowestCut, MustMove, Moved, every, Searched}
use Rattle.search.specs.Search.Tried.{tested, passed}
use Rattle.search.specs.Search.KindTested.{all, one}
use Rattle.search.specs.Search.Moved.{nobody, process}
use Rattle.search.specs.Search.Searched.{found, none}
use Rattle.search.proofs.Tests.{tested_moves}

-- ---- the entries of a mapped list

map_mem : {A B : Type 0} (f : A → B) (l : List A) (j : ℕ) (d : A) → j < length l → Memᴰ (f (get_or l j d)) (map f l)
map_mem f [] j d h = absurd (omega arith)
map_mem f (x ∷ l) zero d h = Memᴰ.head refl
map_mem f (x ∷ l) (suc j) d h = Memᴰ.tail (map_mem f l j d (omega arith))

map_each : {A B : Type 0} (f : A → B) (P : B → Type 0) (l : List A) (d : A) → ((j : ℕ) → j < length l → P (f (get_or l j d))) → (k : B) → Memᴰ k (map f l) → P k
map_each f P [] d w k m = absurd (Memᴰ.not-nil m)
map_each f P (x ∷ l) d w k (Memᴰ.head e) = subst P (sym e) (w 0 (omega arith))
map_each f P (x ∷ l) d w k (Memᴰ.tail m) = map_each f P l d (λ j h. w (suc j) (omega arith)) k m

-- ---- what the test of one clause tells

-- a false channel clause names somebody
end_somebody : {r : Run} {c : ℕ} {t : Test} {n : ℕ} {b : Option ℕ} → EndNamed r c t n b → b ≡ None → ⊥
end_somebody (EndNamed.sender h m) e = never (cc)
end_somebody (EndNamed.receiver h m) e = never (cc)

tested_holds : {r : Run} {cut : List ℕ} {x : Clause} {b : Option ℕ} → b ≡ None → Tested r cut x b → T (holds r cut x)
tested_holds e (Tested.holding t) = t
tested_holds e (Tested.local_false i v o x a h n) = never (cc)
tested_holds e (Tested.channel_false c t b a n w) = absurd (end_somebody w e)

tested_fails : {r : Run} {cut : List ℕ} {x : Clause} {b : Option ℕ} {p : ℕ} → b ≡ Some p → Tested r cut x b → ¬ T (holds r cut x)
tested_fails e (Tested.holding t) = never (cc)
tested_fails e (Tested.local_false i v o x a h n) = n
tested_fails e (Tested.channel_false c t b a n w) = n

other_kind : (t : Bool) → t ≡ not t → ⊥
other_kind true e = never (cc)
other_kind false e = never (cc)

tried_holds : {r : Run} {cut : List ℕ} {x : Clause} {locals : Bool} {b : Option ℕ} → b ≡ None → Tried r cut x locals b → is_local x ≡ locals → T (holds r cut x)
tried_holds e (tested d t) h = tested_holds e t
tried_holds {locals = locals} e (passed d o) h = absurd (other_kind locals (sym h ∙ d))

tried_tested : {r : Run} {cut : List ℕ} {x : Clause} {locals : Bool} {b : Option ℕ} {p : ℕ} → b ≡ Some p → Tried r cut x locals b → Tested r cut x b
tried_tested e (tested d t) = t
tried_tested e (passed d o) = never (cc)

-- a search over the places for a clause of a kind that names somebody
abbrev pub FirstTried : List ℕ → List ℕ → List ℕ → List ℕ → Bool → Option ℕ → Type 0
FirstTried s c qs cut locals b = MatchOption b
    ((k : ℕ) → k < length qs → Tried (run_in s) cut (clause_at c (get_or qs k 0)) locals None)
    (λ p. (k : ℕ) × (k < length qs) × Tried (run_in s) cut (clause_at c (get_or qs k 0)) locals (Some p))

module _ {s c ix qs : List ℕ} (g : Given s c ix qs) where
  abbrev r : Run
  r = run_in s

  -- the clauses at the places
  abbrev cs : List Clause
  cs = clauses_of c qs

  linear : Linear cs
  linear = known_linear c (head_of s) qs g.known.clauses

  clause_in : (j : ℕ) → j < length qs → Memᴰ (clause_at c (get_or qs j 0)) cs
  unfolding clauses_of
  clause_in j h = map_mem (clause_at c) qs j 0 h

  -- ---- the clauses of one kind

  pub first_tried : (cut : List ℕ) {locals : Bool} {b : Option ℕ} → FirstTried s c qs cut locals b → KindTested r cs cut locals b
  unfolding clauses_of
  first_tried cut {locals} {b = None} w = all (map_each (clause_at c) (λ x. is_local x ≡ locals → T (holds r cut x)) qs 0 (λ j h. tried_holds refl (w j h)))
  first_tried cut {locals} {b = Some p} (j, h, t) = one (clause_at c (get_or qs j 0)) (clause_in j h) p (tried_tested refl t)

  pub both_kinds : (cut : List ℕ) {a b : Option ℕ} → a ≡ None → KindTested r cs cut true a → b ≡ None → KindTested r cs cut false b
      → (x : Clause) → Memᴰ x cs → T (holds r cut x)
  both_kinds cut d (all v) e (all w) x m = go (is_local x) refl
    where
      go : (t : Bool) → is_local x ≡ t → T (holds r cut x)
      go true h = v x m h
      go false h = w x m h
  both_kinds cut d (all v) e (one y n p t) x m = never (cc)
  both_kinds cut d (one y n p t) e w x m = never (cc)

  -- where one is false the cut doesn't satisfy
  pub kind_fails : (cut : List ℕ) {locals : Bool} {b : Option ℕ} {p : ℕ} → b ≡ Some p → KindTested r cs cut locals b → ¬ Satisfies r cs cut
  kind_fails cut e (all w) y = never (cc)
  kind_fails cut e (one x m p t) y = tested_fails refl t (y.clauses x m)

  -- ---- the elimination, at a cut that is at or below every satisfying one

  pub search_start : (cut : List ℕ) → cut ≡ replicate (processes r) 1 → LowestCut r cs cut
  unfolding Under
  search_start cut e = subst (LowestCut r cs) (sym e) (record { is_cut = ones_cut r g.index.known; lowest = ones_under r g.index.known cs })

  module _ (cut : List ℕ) (here : LowestCut r cs cut) where
    is : IsCut r cut
    is = here.is_cut

    low : Lowest r cs cut
    low = here.lowest

    -- a false clause
    pub moved_clause : {locals : Bool} {asked : Clause → Bool} {b : Option ℕ} {p : ℕ} → b ≡ Some p → KindTested r cs cut locals b → Moved r cs ix cut asked b
    moved_clause e (all w) = never (cc)
    moved_clause e (one x m p t) = let (a, w) = tested_moves r cs cut x linear low m (Some p) p refl t in process p a w

    -- where the local clauses hold, the clocks
    pub moved_clocks : {a b : Option ℕ} → a ≡ None → KindTested r cs cut true a → b ≡ too_low (clock_in ix) cut → Moved r cs ix cut is_local b
    unfolding Under Moves
    moved_clocks {b = None} d (all w) e = nobody w (nobody_by_clock (clock_in ix) cut r g.index.clocks is (sym e))
    moved_clocks {b = Some p} d (all w) e =
        let (j, l) = too_low_found (clock_in ix) cut p (sym e) in
        process p (omega (arith, l.process, is.size))
        (clock_moves r cs linear cut low (clock_in ix) g.index.clocks is p j (omega (arith, l.process, is.size)) (omega (arith, l.other, is.size)) l.apart l.low)
    moved_clocks d (one x m p t) e = never (cc)

    -- and where those name nobody either, the channel clauses
    pub moved_channels : {a b : Option ℕ} → a ≡ None → Moved r cs ix cut is_local a → KindTested r cs cut false b → Moved r cs ix cut every b
    moved_channels e (nobody v k) (all w) = nobody (λ x m t. go x m (is_local x) refl) k
      where
        go : (x : Clause) → Memᴰ x cs → (t : Bool) → is_local x ≡ t → T (holds r cut x)
        go x m true h = v x m h
        go x m false h = w x m h
    moved_channels e (nobody v k) (one x m p t) = moved_clause {locals = false} refl (one x m p t)
    moved_channels e (process p h m) w = never (cc)

    -- somebody is named before the channel clauses are asked
    pub moved_before : {a : Option ℕ} → (a ≡ None → ⊥) → Moved r cs ix cut is_local a → Moved r cs ix cut every a
    moved_before n (nobody v k) = absurd (n refl)
    moved_before n (process p h m) = process p h m

    -- whom the local clauses name, or else the clocks
    pub moved_first : {a b : Option ℕ} → KindTested r cs cut true a → MatchOption a (b ≡ too_low (clock_in ix) cut) (λ p. b ≡ Some p) → Moved r cs ix cut is_local b
    moved_first {a = None} t w = moved_clocks refl t w
    moved_first {a = Some p} t w = rw w (moved_clause refl t)

    pub in_table : InTable cut
    in_table = cut_in_table g.index cut is

    pub search_found : {b : Option ℕ} → b ≡ None → Moved r cs ix cut every b → Searched r cs cut A.Found
    unfolding Under
    search_found e (nobody w v) = found (arrive r cs cut low (all_tested r (clock_in ix) cs cut g.index.clocks is v (λ k m. w k m refl)))
    search_found e (process p h m) = never (cc)

    -- who is named, and where the head and the cut have it
    pub record Located (p : ℕ) : Type 0 where
      pub there : p < processes r
      pub headed : p < (head_of s).processes
      pub must : MustMove r cs cut p
      pub row : p < 8
      pub inside : p < length cut
      pub small : at cut p ≤ 512

    named : {p : ℕ} → p < processes r → MustMove r cs cut p → Located p
    named {p} h m =
        let read = g.index.listed.read in
        let l : p < (head_of s).processes = omega (arith, processes_are s read) in
        let few = (ok s read).head.few in
        let inside : p < length cut = omega (arith, is.size) in
        record { there = h; headed = l; must = m; row = omega arith; inside = inside; small = in_table.there p inside }

    pub moved_process : {b : Option ℕ} {p : ℕ} → b ≡ Some p → Moved r cs ix cut every b → Located p
    moved_process e (nobody w v) = never (cc)
    moved_process {p = p} e (process q h m) = let same : q ≡ p = cc in subst Located same (named h m)

    module _ (p : ℕ) (h : p < processes r) (m : MustMove r cs cut p) where
      -- a history that runs out
      pub search_none : count r p ≤ at cut p → Searched r cs cut A.NoCut
      unfolding Moves
      search_none l = none (run_out r cs cut p h l m)

      -- a move
      pub search_move : at cut p < count r p → LowestCut r cs (set cut p (at cut p + 1))
      unfolding Under Moves
      search_move l = rw add-one (record {
        is_cut = record {
          size = length-set cut p (suc (at cut p)) ∙ is.size;
          states = λ i g. elim (ℕ_discrete i p) [
            | yes e ↦ subst (λ i. IsState r i (at (set cut p (suc (at cut p))) i)) (sym e) (subst (IsState r p) (sym (get_or-set_same cut p (suc (at cut p)) 0 (omega (arith, is.size))))
                (record { counted = omega arith; there = l }))
            | no n ↦ subst (IsState r i) (sym (get_or-set_other cut p i (suc (at cut p)) 0 n)) (is.states i g)
          ];
        };
        lowest = move-on r cs cut p (omega (arith, is.size)) low m;
      })

      -- a bound on the moves
      pub search_less : at cut p < count r p → 4096 - total (set cut p (at cut p + 1)) < 4096 - total cut
      search_less l =
          let few = cut_in_table g.index (set cut p (at cut p + 1)) (search_move l).is_cut in
          omega (arith, total-set cut p (omega (arith, is.size)), total_few (set cut p (at cut p + 1)) few.there, few.few)
