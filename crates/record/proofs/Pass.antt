-- The laws of a pass: what each turn of it gives, how far it has come, and what an accepted file is by what holds along the pass.
use mathlib.Core.Path.{◌≡◌, refl, sym, ap, ◌∙◌}
use mathlib.Core.Bool.{Bool, true, false, cond}
use mathlib.Core.List.{List}
use Prim.Native.Nat.{ℕ, zero, suc, ◌+◌, ◌≤◌, ◌<◌}
use native.Mathlib.Omega.{arith}
use borrow.Author.Tests.{lt-ltb, ltb-false}
use lib.Dec.{ltb}
use lib.ListN.{length}
use Rattle.model.proofs.Numbers.{never}
use Rattle.std.proofs.Common.{Result, Ok, Err}
use Rattle.std.specs.Prelude.{⊤}
use Rattle.record.specs.Refusal.{Check, passed, refuse_if, refusal, and_then}
use Rattle.record.specs.declared.reasons.Reason.{Reason}
use Rattle.record.specs.declared.reasons.Reason.TheVariants.{TooLong, WrongKind}
use Rattle.record.specs.declared.File.{File}
use Rattle.record.specs.declared.Refusal.{Refusal}
use Rattle.record.specs.Pass.{Read, Pass, check_length, check_end, read_from, read_file}
use Rattle.record.specs.Inner.{read_records}
use Rattle.record.proofs.Laws.{refuse_if_ok, not_faulty}

-- a file that isn't too long, and an end behind which nothing follows
pub length_ok : (f : File) (s : List ℕ) → check_length f s ≡ Ok tt → length s ≤ 65535
unfolding check_length
length_ok f s e = ltb-false _ _ (refuse_if_ok _ TooLong (not_faulty _ _ _ _ e))

pub end_ok : (f : File) (s : List ℕ) (next : ℕ) → check_end f s next ≡ Ok tt → length s ≤ next
unfolding check_end
end_ok f s next e = go (ltb next (length s)) refl e
  where
    go : (t : Bool) → ltb next (length s) ≡ t
        → ◌≡◌ {A = Result ⊤ Refusal} (cond t (Err (record { file = f; reason = WrongKind; place = next; after = true })) (Ok tt)) (Ok tt) → length s ≤ next
    go true t e = never (cc)
    go false t e = ltb-false _ _ t

module _ {Item Known : Type 0} (p : Pass Item Known) where
  -- ---- a turn

  module _ (f at : ℕ) (k : Known) where
    turn_stopped : (x : Refusal) → p.step at k ≡ Err x → read_from p (suc f) at k ≡ Err x
    unfolding read_from
    turn_stopped x e = simp e

    module _ (r : Item) (next : ℕ) (g : p.step at k ≡ Ok (r, next)) where
      turn_judged : (why : Reason) → p.judge at k r ≡ Err why → read_from p (suc f) at k ≡ Err (refusal p.file why at)
      unfolding read_from
      turn_judged why n = simp (g, n)

      turn_end : p.judge at k r ≡ passed → p.is_end r ≡ true → read_from p (suc f) at k ≡ and_then (check_end p.file p.bytes next) (λ u. Ok (p.places k))
      unfolding read_from
      turn_end n e = simp (g, n, e)

      turn_more : p.judge at k r ≡ passed → p.is_end r ≡ false → read_from p (suc f) at k ≡ read_from p f next (p.more r at k)
      unfolding read_from
      turn_more n e = simp (g, n, e)

  -- ---- the length of the file

  pub read_long : 65535 < length p.bytes → read_file p ≡ Err (refusal p.file TooLong 0)
  unfolding read_file check_length refuse_if
  read_long h = simp (lt-ltb _ _ h)

  pub read_refused : (x : Refusal) → check_length p.file p.bytes ≡ Err x → read_file p ≡ Err x
  unfolding read_file
  read_refused x e = ap (λ t. and_then t (λ u. read_records p)) e

  pub read_short : check_length p.file p.bytes ≡ Ok tt → read_file p ≡ read_records p
  unfolding read_file
  read_short e = ap (λ t. and_then t (λ u. read_records p)) e

  -- ---- the pass so far: what is left from here gives the whole

  pub record Here (at : ℕ) (k : Known) : Type 0 where
    pub within : at ≤ length p.bytes
    pub fuel : ℕ
    pub enough : length p.bytes < at + fuel
    pub same : read_records p ≡ read_from p fuel at k

  pub here_start : Here 0 p.start
  here_start = record { within = omega arith; fuel = suc (length p.bytes); enough = omega arith; same = refl }

  module _ {at : ℕ} {k : Known} (here : Here at k) where
    -- there is fuel for one more record
    one_more : (g : ℕ) × (here.fuel ≡ suc g)
    one_more = go here.fuel here.enough
      where
        go : (f : ℕ) → length p.bytes < at + f → (g : ℕ) × (f ≡ suc g)
        go zero h = absurd (omega (arith, here.within))
        go (suc g) h = (g, refl)

    turn : {v : Read} → ((f : ℕ) → read_from p (suc f) at k ≡ v) → read_records p ≡ v
    turn w = let (g, e) = one_more in here.same ∙ rw e (w g)

    pub here_stopped : (x : Refusal) → p.step at k ≡ Err x → read_records p ≡ Err x
    here_stopped x e = turn (λ f. turn_stopped f at k x e)

    module _ (r : Item) (next : ℕ) (g : p.step at k ≡ Ok (r, next)) where
      pub here_judged : (why : Reason) → p.judge at k r ≡ Err why → read_records p ≡ Err (refusal p.file why at)
      here_judged why n = turn (λ f. turn_judged f at k r next g why n)

      pub here_end : p.judge at k r ≡ passed → p.is_end r ≡ true → read_records p ≡ and_then (check_end p.file p.bytes next) (λ u. Ok (p.places k))
      here_end n e = turn (λ f. turn_end f at k r next g n e)

      pub here_more : p.judge at k r ≡ passed → p.is_end r ≡ false → at < next → next ≤ length p.bytes → Here next (p.more r at k)
      here_more n e on inside = let (f, z) = one_more in record {
        within = inside;
        fuel = f;
        enough = omega (arith, here.enough, z);
        same = here.same ∙ ap (λ x. read_from p x at k) z ∙ turn_more f at k r next g n e;
      }

  -- ---- an accepted file, by what holds along the pass

  module _ (Along : ℕ → Known → Type 0) (P : List ℕ → Type 0)
      (next-holds : (at next : ℕ) (k : Known) (r : Item) → Along at k → p.step at k ≡ Ok (r, next) → p.judge at k r ≡ passed → p.is_end r ≡ false
      → Along next (p.more r at k))
      (end-holds : (at next : ℕ) (k : Known) (r : Item) → Along at k → p.step at k ≡ Ok (r, next) → p.judge at k r ≡ passed → p.is_end r ≡ true
      → length p.bytes ≤ next → P (p.places k)) where
    from_here : (f at : ℕ) (k : Known) → Along at k → (qs : List ℕ) → read_from p f at k ≡ Ok qs → P qs
    unfolding read_from
    from_here zero at k w qs e = never (cc)
    from_here (suc f) at k w qs e = by_step (p.step at k) refl (from_here f)
      where
        Rest : Type 0
        Rest = (next : ℕ) (k' : Known) → Along next k' → (qs : List ℕ) → read_from p f next k' ≡ Ok qs → P qs

        by_judge : (r : Item) (next : ℕ) → p.step at k ≡ Ok (r, next) → (t : Check) → p.judge at k r ≡ t → (u : Bool) → p.is_end r ≡ u → Rest → P qs
        by_judge r next g (Err why) a u b rest = let y = sym (turn_judged f at k r next g why a) ∙ e in never (cc (y))
        by_judge r next g (Ok x) a false b rest =
            rest next (p.more r at k) (next-holds at next k r w g a b) qs (sym (turn_more f at k r next g a b) ∙ e)
        by_judge r next g (Ok x) a true b rest =
            at_end (check_end p.file p.bytes next) refl (sym (turn_end f at k r next g a b) ∙ e)
          where
            at_end : (t : Result ⊤ Refusal) → check_end p.file p.bytes next ≡ t → and_then t (λ u. Ok (p.places k)) ≡ Ok qs → P qs
            at_end (Err x) t e = never (cc)
            at_end (Ok u) t e = let same : p.places k ≡ qs = cc in rw (← same) (end-holds at next k r w g a b (end_ok _ _ _ t))

        by_step : (v : Result (Item × ℕ) Refusal) → p.step at k ≡ v → Rest → P qs
        by_step (Err x) g rest = let y = sym (turn_stopped f at k x g) ∙ e in never (cc (y))
        by_step (Ok (r, next)) g rest = by_judge r next g (p.judge at k r) refl (p.is_end r) refl rest

    pub accepted_holds : Along 0 p.start → (qs : List ℕ) → read_file p ≡ Ok qs → (length p.bytes ≤ 65535) × P qs
    accepted_holds w qs e = go (check_length p.file p.bytes) refl
      where
        go : (t : Result ⊤ Refusal) → check_length p.file p.bytes ≡ t → (length p.bytes ≤ 65535) × P qs
        go (Err x) t = let y = sym (read_refused x t) ∙ e in never (cc (y))
        go (Ok u) t = (length_ok _ _ t, from_here (suc (length p.bytes)) 0 p.start w qs (sym (read_short t) ∙ e))
