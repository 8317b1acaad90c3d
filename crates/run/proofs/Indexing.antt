-- One more state keeps the index right.
use mathlib.Core.Path.{◌≡◌, refl, sym, ap, ◌∙◌}
use mathlib.Core.Bool.{Bool, true, false}
use mathlib.Core.List.{List, [], ◌∷◌, ◌++◌, append-nil}
use mathlib.Core.Logic.{⊎_elim}
use Prim.Native.Nat.{ℕ, ◌+◌, ◌*◌, ◌≤◌, ◌<◌}
use native.Mathlib.Nat.{eq-or-lt_of_le}
use native.Mathlib.Decide.{ℕ_discrete}
use native.Mathlib.Omega.{arith}
use borrow.Author.Tests.{eq-eqb, ne_eqb}
use lib.Dec.{eqb}
use lib.ListN.{length, get_or, set, take, length-set, length-append, get_or-append}
use lib.Seq.{ext_get_or, get_or-set_same, get_or-set_other, get_or-append_seam, get_or-take, length-take-le, take-set-lt, take-set-le}
use Rattle.record.specs.Record.{state_fields_at}
use Rattle.states.specs.States.{places_of}
use Rattle.run.proofs.Places.{put}
use Rattle.run.specs.Read.{counts_of}
use Rattle.run.specs.Index.{Indexed, Fresh, index_size, partners_part}
use Rattle.states.proofs.Tabulate.{tabulate-length, tabulate-at}

places_snoc : (s qs : List ℕ) (q p : ℕ) → places_of s (qs ++ (q ∷ [])) p ≡ places_of s qs p ++ put (eqb (state_fields_at s q).process p) q []
unfolding places_of
places_snoc s [] q p = refl
places_snoc s (x ∷ qs) q p = go (eqb (state_fields_at s x).process p) (places_snoc s qs q p)
  where
    zs : List ℕ
    zs = put (eqb (state_fields_at s q).process p) q []

    go : (t : Bool) → places_of s (qs ++ (q ∷ [])) p ≡ places_of s qs p ++ zs → put t x (places_of s (qs ++ (q ∷ [])) p) ≡ put t x (places_of s qs p) ++ zs
    go true e = ap (λ l. x ∷ l) e
    go false e = e

pub places_same : (s qs : List ℕ) (q p : ℕ) → (state_fields_at s q).process ≡ p → places_of s (qs ++ (q ∷ [])) p ≡ places_of s qs p ++ (q ∷ [])
places_same s qs q p e = places_snoc s qs q p ∙ simp (eq-eqb _ p e)

pub places_other : (s qs : List ℕ) (q p : ℕ) → ((state_fields_at s q).process ≡ p → ⊥) → places_of s (qs ++ (q ∷ [])) p ≡ places_of s qs p
places_other s qs q p n = places_snoc s qs q p ∙ simp (ne_eqb _ p n, append-nil)

pub counts_at : (s qs : List ℕ) (p : ℕ) → p < 8 → get_or (counts_of s qs) p 0 ≡ length (places_of s qs p)
unfolding counts_of
counts_at s qs p h = tabulate-at 8 (λ p. length (places_of s qs p)) p 0 h

pub counts_length : (s qs : List ℕ) → length (counts_of s qs) ≡ 8
unfolding counts_of
counts_length s qs = tabulate-length 8 (λ p. length (places_of s qs p))

-- the counts are the first eight entries
pub counts_eight : (ix : List ℕ) → length ix ≡ index_size → length (take 8 ix) ≡ 8
counts_eight ix e = length-take-le 8 ix (omega (arith, e))

-- process p has one state more, at the place at
module _ (s qs ix : List ℕ) (at p : ℕ) (own : (state_fields_at s at).process ≡ p) (w : Indexed s qs ix) (row : p < 8) where
  abbrev n : ℕ
  n = get_or ix p 0

  -- behind its place is written, and behind its count is
  abbrev mid : List ℕ
  mid = set ix (8 + (512 * p + n)) at

  abbrev cs : List ℕ
  cs = take 8 ix

  abbrev qs' : List ℕ
  qs' = qs ++ (at ∷ [])

  others : (i : ℕ) → (i ≡ p → ⊥) → places_of s qs' i ≡ places_of s qs i
  others i d = places_other s qs at i (λ e. d (sym e ∙ own))

  here : n ≡ length (places_of s qs p)
  here = sym (get_or-take 8 ix p 0 row) ∙ ap (λ l. get_or l p 0) w.counted ∙ counts_at s qs p row

  longer : length (places_of s qs' p) ≡ n + 1
  longer = ap length (places_same s qs at p own) ∙ length-append (places_of s qs p) (at ∷ []) ∙ omega (arith, here)

  counts : set cs p (n + 1) ≡ counts_of s qs'
  counts = ext_get_or 0 (set cs p (n + 1)) (counts_of s qs') (length-set cs p (n + 1) ∙ eight ∙ sym (counts_length s qs')) each
    where
      eight : length cs ≡ 8
      eight = ap length w.counted ∙ counts_length s qs

      each : (i : ℕ) → i < length (set cs p (n + 1)) → get_or (set cs p (n + 1)) i 0 ≡ get_or (counts_of s qs') i 0
      each i h =
          let l : i < 8 = omega (arith, length-set cs p (n + 1), eight) in
          elim (ℕ_discrete i p) [
            | yes e ↦ rw (e, get_or-set_same cs p (n + 1) 0 (omega (arith, eight)), counts_at s qs' p row) (sym longer)
            | no d ↦ rw (get_or-set_other cs p i (n + 1) 0 d, counts_at s qs' i l, others i d) (ap (λ l. get_or l i 0) w.counted ∙ counts_at s qs i l)
          ]

  counted : take 8 (set mid p (n + 1)) ≡ counts_of s qs'
  counted = take-set-lt 8 mid p (n + 1) row ∙ ap (λ l. set l p (n + 1)) (take-set-le 8 ix (8 + (512 * p + n)) at (omega arith)) ∙ counts

  placed : length ix ≡ index_size → n < 512 → (p' i : ℕ) → p' < 8 → i < length (places_of s qs' p')
      → get_or mid (8 + (512 * p' + i)) 0 ≡ get_or (places_of s qs' p') i 0
  placed long room p' i l h = elim (ℕ_discrete p' p) [
    | yes e ↦ own_row p' e h
    | no d ↦ rw (others p' d) (get_or-set_other ix (8 + (512 * p + n)) (8 + (512 * p' + i)) at 0 (apart d) ∙ w.placed p' i l (rw (others p' d) at h))
  ]
    where
      apart : (p' ≡ p → ⊥) → 8 + (512 * p' + i) ≡ 8 + (512 * p + n) → ⊥
      apart d z = let b = w.few p' l in d (omega (arith, ap length (others p' d)))

      own_row : (q : ℕ) → q ≡ p → i < length (places_of s qs' q) → get_or mid (8 + (512 * q + i)) 0 ≡ get_or (places_of s qs' q) i 0
      own_row q e h = rw (e, places_same s qs at p own) (⊎_elim last before (eq-or-lt_of_le (bound (rw e at h))))
        where
          bound : i < length (places_of s qs' p) → i ≤ n
          bound h = omega (arith, longer)

          last : i ≡ n → get_or mid (8 + (512 * p + i)) 0 ≡ get_or (places_of s qs p ++ (at ∷ [])) i 0
          last e = rw (e, get_or-set_same ix (8 + (512 * p + n)) at 0 (omega arith)) (rw here (sym (get_or-append_seam (places_of s qs p) at [] 0)))

          before : i < n → get_or mid (8 + (512 * p + i)) 0 ≡ get_or (places_of s qs p ++ (at ∷ [])) i 0
          before h =
              let b : i < length (places_of s qs p) = omega (arith, here) in
              get_or-set_other ix (8 + (512 * p + n)) (8 + (512 * p + i)) at 0 (λ z. omega arith) ∙ w.placed p i row b
              ∙ sym (get_or-append (places_of s qs p) (at ∷ []) 0 i b)

  pub index_more : length ix ≡ index_size → n < 512 → Indexed s qs' (set mid p (n + 1))
  index_more long room = record {
    counted = counted;
    few = λ p' l. elim (ℕ_discrete p' p) [
      | yes e ↦ rw e (omega (arith, longer))
      | no d ↦ rw (others p' d) (w.few p' l)
    ];
    placed = λ p' i l h. get_or-set_other mid p (8 + (512 * p' + i)) (n + 1) 0 (λ z. omega arith) ∙ placed long room p' i l h;
  }

  -- nothing is written from 4104 on
  pub fresh_more : n < 512 → Fresh partners_part ix → Fresh partners_part (set mid p (n + 1))
  fresh_more room w x h = get_or-set_other mid p x (n + 1) 0 (λ z. omega arith) ∙ get_or-set_other ix (8 + (512 * p + n)) x at 0 (λ z. omega arith) ∙ w x h
