-- The first record in file order: from the first faulty state of each process. Letters as in specs/Firsts.
use Rattle.std.proofs.Common.{Ok}
use mathlib.Core.Path.{◌≡◌, refl, sym, ap, ◌∙◌, subst}
use mathlib.Core.Logic.{⊎_elim}
use mathlib.Core.List.{List, [], ◌∷◌, ◌++◌, append-nil}
use Prim.Native.Nat.{ℕ, zero, suc, ◌+◌, ◌≤◌, ◌<◌, min}
use native.Mathlib.Numerals.{add-one}
use native.Mathlib.Nat.{add-zero, zero-add, eq-or-lt_of_le}
use native.Mathlib.Omega.{arith}
use lib.ListN.{length, get_or, set}
use lib.Seq.{get_or-set_same, get_or-set_other}
use Rattle.std.specs.Prelude.{Option, Some, None}
use Rattle.std.specs.Option.{MatchOption, IfSome, option_map}
use Rattle.std.specs.List.{reduce, filter_map, cons_option, range_with_len}
use Rattle.std.proofs.lemmas.List.Elements.{filter_map-append}
use Rattle.std.proofs.lemmas.List.Sums.{fold-append}
use Rattle.std.proofs.lemmas.Option.{IfSome_then}
use Rattle.model.proofs.Numbers.{below_next}
use Rattle.model.specs.Run.{IsState, count}
use Rattle.model.proofs.Lists.{le_or_lt}
use Rattle.record.specs.Record.{head_of}
use Rattle.run.specs.Read.{read_of}
use Rattle.run.specs.Said.{states_of, run_in, place_of}
use Rattle.run.specs.Index.{Listed}
use Rattle.run.proofs.Listed.{process_of, place_rises}
use Rattle.judged.specs.Judged.{FirstAt, Faultless}
use Rattle.judged.specs.Firsts.{FirstOf, FirstsTo, Candidate, Earliest, FirstJudged}
use Rattle.judged.specs.Firsts.Earliest.{all_none, lowest}
use Rattle.judged.specs.Firsts.FirstJudged.{faulty, faultless}

-- one entry more of a table: what holds of it and of all before it
pub each_next : (P : ℕ → Option ℕ → Type 0) (n : ℕ) (k : Option ℕ) (bad : List (Option ℕ)) → n < length bad → P n k → ((p : ℕ) → p < n → P p (get_or bad p None))
    → (p : ℕ) → p < n + 1 → P p (get_or (set bad n k) p None)
each_next P n k bad inside here before p h =
    below_next (λ p. P p (get_or (set bad n k) p None)) h
    (rw (get_or-set_same bad n k None inside) here)
    (λ g. rw (get_or-set_other bad n p k None (λ e. absurd (omega arith))) (before p g))

-- ---- the first of each process

module _ (s : List ℕ) (Fault : ℕ → ℕ → Type 0) where
  -- no state of process p ahead of state k has the fault
  abbrev pub NoneAhead : ℕ → ℕ → Type 0
  NoneAhead p k = (l : ℕ) → IsState (run_in s) p l → l < k → ¬ Fault p l

  pub first_of_here : (p k : ℕ) → IsState (run_in s) p k → Fault p k → NoneAhead p k → FirstOf s Fault p (Some k)
  first_of_here p k t f w = record { there = t; fault = f; first = w }

  -- what `find` over the n states of a process tells
  pub first_of_found : (p n : ℕ) → n ≡ count (run_in s) p → (r : Option ℕ)
      → MatchOption r ((k : ℕ) → 1 ≤ k → k < n + 1 → ¬ Fault p k) (λ i. (1 ≤ i) × (i < n + 1) × Fault p i × ((k : ℕ) → 1 ≤ k → k < i → ¬ Fault p k))
      → FirstOf s Fault p r
  first_of_found p n e None w = record { there = tt; fault = tt; first = λ l t h. w l t.counted (omega (arith, t.there, e)) }
  first_of_found p n e (Some k) (a, b, f, w) = first_of_here p k (record { counted = a; there = omega (arith, b, e) }) f (λ l t h. w l t.counted h)

  pub firsts_start : (bad : List (Option ℕ)) → FirstsTo s Fault 0 bad
  firsts_start bad = record { each = λ p h. absurd (omega arith) }

  pub firsts_next : (n : ℕ) (k : Option ℕ) (bad : List (Option ℕ)) → n < length bad → FirstsTo s Fault n bad → FirstOf s Fault n k → FirstsTo s Fault (n + 1) (set bad n k)
  firsts_next n k bad inside w v = record { each = each_next (FirstOf s Fault) n k bad inside v w.each }

pub candidates : {s ix : List ℕ} {bad : List (Option ℕ)} {Fault : ℕ → ℕ → Type 0} {n : ℕ} → Listed s ix → length bad ≡ 8 → n ≡ (head_of s).processes → FirstsTo s Fault n bad
    → (p : ℕ) → p < n → Candidate s ix bad p
candidates listed eight all w p h = record { listed = listed; eight = eight; process = omega arith; there = (w.each p h).there }

-- ---- the lowest place

abbrev lower_of : Option ℕ → ℕ → ℕ
lower_of None x = x
lower_of (Some y) x = min y x

reduce_next : (xs : List ℕ) (y : ℕ) → reduce min (xs ++ (y ∷ [])) ≡ Some (lower_of (reduce min xs) y)
reduce_next [] y = refl
reduce_next (x ∷ xs) y = ap Some (fold-append min x xs (y ∷ []))

range_next : (a n : ℕ) → range_with_len a (suc n) ≡ range_with_len a n ++ ((a + n) ∷ [])
range_next a zero = rw (add-zero a) refl
range_next a (suc n) = let e : a + 1 + n ≡ a + suc n = omega arith in ap {B = List ℕ} (λ l. a ∷ l) (range_next (a + 1) n ∙ ap (λ x. range_with_len (a + 1) n ++ (x ∷ [])) e)

module _ (s : List ℕ) (bad : List (Option ℕ)) where
  -- a place that isn't above that of the state of process p, where it has one
  abbrev UpTo : ℕ → ℕ → Type 0
  UpTo x p = IfSome (get_or bad p None) (λ l. x ≤ place_of s p l)

  skip : (p : ℕ) (f : Option ℕ) → get_or bad p None ≡ None → Earliest s p bad f → Earliest s (p + 1) bad f
  skip p f z (all_none w) = all_none (λ q h. below_next (λ q. get_or bad q None ≡ None) h z (w q))
  skip p f z (lowest x q k h n e w) = lowest x q k (omega arith) n e (λ i g. below_next (UpTo x) g (rw z tt) (w i))

  take : (p k : ℕ) (f : Option ℕ) → get_or bad p None ≡ Some k → Earliest s p bad f → Earliest s (p + 1) bad (Some (lower_of f (place_of s p k)))
  take p k f z (all_none w) =
      let y = place_of s p k in
      lowest y p k (omega arith) z refl (λ i g. below_next (UpTo y) g (rw z (omega arith)) (λ l. rw (w i l) tt))
  take p k f z (lowest x q j h m d w) = ⊎_elim first new (le_or_lt x y)
    where
      y : ℕ
      y = place_of s p k

      first : x ≤ y → Earliest s (p + 1) bad (Some (min x y))
      first l =
          let same : x ≡ min x y = omega arith in
          rw (← same) (lowest x q j (omega arith) m d (λ i g. below_next (UpTo x) g (rw z (omega arith)) (w i)))

      new : y < x → Earliest s (p + 1) bad (Some (min x y))
      new l =
          let same : y ≡ min x y = omega arith in
          rw (← same) (lowest y p k (omega arith) z refl (λ i g. below_next (UpTo y) g (rw z (omega arith)) (λ o. IfSome_then (get_or bad i None) (w i o) (λ n a. omega arith))))

  -- the place of the state of a process, where it has one
  abbrev pub place_in : ℕ → Option ℕ
  place_in p = option_map (place_of s p) (get_or bad p None)

  -- what `min` over these places gives
  pub earliest_least : (n : ℕ) → Earliest s n bad (reduce min (filter_map place_in (range_with_len 0 n)))
  earliest_least zero = all_none (λ p h. absurd (omega arith))
  earliest_least (suc n) =
      let split = ap (filter_map place_in) (range_next 0 n) ∙ filter_map-append place_in (range_with_len 0 n) ((0 + n) ∷ []) ∙ ap (λ i. front ++ cons_option (place_in i) []) (zero-add n) in
      subst (λ m. Earliest s m bad (reduce min (filter_map place_in (range_with_len 0 (suc n))))) (add-one n) (subst (λ l. Earliest s (n + 1) bad (reduce min l)) (sym split) (go (get_or bad n None) refl (earliest_least n)))
    where
      front : List ℕ
      front = filter_map place_in (range_with_len 0 n)

      go : (o : Option ℕ) → get_or bad n None ≡ o → Earliest s n bad (reduce min front) → Earliest s (n + 1) bad (reduce min (front ++ cons_option (option_map (place_of s n) o) []))
      go None e w = rw (append-nil front) (skip n (reduce min front) e w)
      go (Some k) e w = rw (reduce_next front (place_of s n k)) (take n k (reduce min front) e w)

module _ (s : List ℕ) (read : read_of s ≡ Ok (states_of s)) (Fault : ℕ → ℕ → Type 0) (n : ℕ) (bad : List (Option ℕ)) (all : n ≡ (head_of s).processes)
    (w : FirstsTo s Fault n bad) where
  inside : {p k : ℕ} → IsState (run_in s) p k → p < n
  inside t = omega (arith, all, process_of s read t)

  -- a place that isn't above those of the first faulty states isn't above any faulty state's
  up_to_all : (x : ℕ) → ((p : ℕ) → p < n → UpTo s bad x p) → (p k : ℕ) → IsState (run_in s) p k → Fault p k → x ≤ place_of s p k
  up_to_all x v p k t f = go (get_or bad p None) (w.each p (inside t)) (v p (inside t))
    where
      go : (o : Option ℕ) → FirstOf s Fault p o → IfSome o (λ l. x ≤ place_of s p l) → x ≤ place_of s p k
      go None o u = absurd (o.first k t tt f)
      go (Some l) o u = ⊎_elim
          (λ h. ⊎_elim
          (λ e. rw (← e) u)
          (λ g. omega (arith, u, place_rises s read p l k o.there t g))
          (eq-or-lt_of_le h))
          (λ h. absurd (o.first k t h f))
          (le_or_lt l k)

  pub first_judged : {More : Type 0} → (((p : ℕ) → p < n → get_or bad p None ≡ None) → More) → (f : Option ℕ) → Earliest s n bad f → FirstJudged s Fault More f
  first_judged more f (all_none z) = faultless (λ p k t. let h = inside t in (w.each p h).first k t (rw (z p h) tt)) (more z)
  first_judged more f (lowest x p k h m e v) =
      let o : FirstOf s Fault p (Some k) = rw m at (w.each p h) in
      faulty x (record { process = p; state = k; there = o.there; fault = o.fault; place = e; first = up_to_all x v })

module _ {s : List ℕ} {Fault : ℕ → ℕ → Type 0} {More : Type 0} where
  pub fault_at : {x : ℕ} → FirstJudged s Fault More (Some x) → FirstAt s Fault x
  fault_at (faulty _ w) = w

  pub no_fault : FirstJudged s Fault More None → Faultless s Fault × More
  no_fault (faultless n m) = (n, m)
