-- The pass over a run so far: what is left from here gives the whole, and the index holds the states so far.
use mathlib.Core.Path.{◌≡◌, refl, sym, ap, ◌∙◌}
use mathlib.Core.Logic.{⊎_elim}
use mathlib.Core.Bool.{true, false}
use mathlib.Core.List.{List, []}
use Prim.Native.Nat.{ℕ, suc, ◌≤◌, ◌<◌}
use native.Mathlib.Omega.{arith}
use lib.ListN.{length, get_or, replicate, take, get_or-replicate, length-replicate, get_or-eq_default}
use lib.Seq.{get_or-take}
use Rattle.model.proofs.Lists.{le_or_lt}
use Rattle.model.proofs.Numbers.{never}
use Rattle.record.specs.Pass.{Read, check_end}
use Rattle.record.specs.Inner.{read_records}
use Rattle.std.proofs.Common.{Ok, Err}
use Rattle.record.specs.Refusal.{passed, refusal, and_then}
use Rattle.record.specs.declared.reasons.Reason.{Reason}
use Rattle.record.specs.Record.{head_of, record_at, step_at}
use Rattle.record.specs.declared.File.TheVariants.{Run}
use Rattle.record.specs.declared.Refusal.{Refusal}
use Rattle.record.specs.declared.Record.{Record}
use Rattle.record.specs.declared.Record.TheVariants as R
use Rattle.record.proofs.Pass.{Here, here_start, here_judged, here_end, here_more}
use Rattle.states.specs.States.{places_of}
use Rattle.states.specs.Judge.{check_record}
use Rattle.states.proofs.Laws.{state_ok, state_there}
use Rattle.run.specs.Read.{counts_of, more, is_end, run_pass}
use Rattle.run.specs.Index.{Indexed, Fresh, index_size, partners_part}
use Rattle.run.specs.Inner.{StateRoomy, StateNoted, reading, RunPassed}
use Rattle.run.proofs.Indexing.{index_more, fresh_more}
use Rattle.run.proofs.Accepted.{record_stepped, RunAlong, along_start, along_next}

pub no_end : (r : Record) → (r ≡ R.End → ⊥) → is_end r ≡ false
no_end (R.Head h) n = refl
no_end (R.Channel l) n = refl
no_end (R.State f) n = refl
no_end R.End n = absurd (n refl)

pub record IndexSoFar (s ix : List ℕ) (at : ℕ) : Type 0 where
  pub states : List ℕ
  pub here : Here (run_pass s) at states
  pub along : RunAlong s at states
  pub index : Indexed s states ix
  pub fresh : Fresh partners_part ix
  pub long : length ix ≡ index_size

pub so_far_start : (s ix : List ℕ) → ix ≡ replicate index_size 0 → IndexSoFar s ix 0
unfolding counts_of places_of Rattle.states.specs.States.tabulate
so_far_start s ix e = record {
  states = [];
  here = here_start (run_pass s);
  along = along_start s;
  index = record { counted = ap (take 8) e; few = λ p l. omega arith; placed = λ p i l h. absurd (omega arith) };
  fresh = λ x h. ap (λ l. get_or l x 0) e ∙ zero_at x;
  long = ap length e ∙ length-replicate {A = ℕ} index_size 0;
}
  where
    zero_at : (x : ℕ) → ◌≡◌ {A = ℕ} (get_or (replicate index_size 0) x 0) 0
    zero_at x = ⊎_elim
        (λ h. get_or-replicate index_size x 0 0 h)
        (λ h. get_or-eq_default (replicate index_size 0) 0 {n = x} (omega (arith, length-replicate {A = ℕ} index_size 0)))
        (le_or_lt (suc x) index_size)

module _ (s ix : List ℕ) (at : ℕ) (w : IndexSoFar s ix at) where
  abbrev cs : List ℕ
  cs = take 8 ix

  abbrev qs : List ℕ
  qs = w.states

  -- the counts of the index are those that the definition counts
  judged : (r : Record) → check_record s cs at r ≡ check_record s (counts_of s qs) at r
  judged r = ap (λ l. check_record s l at r) w.index.counted

  module _ (next : ℕ) (r : Record) (g : step_at s at ≡ Ok (r, next)) where
    pub so_far_judged : (why : Reason) → check_record s cs at r ≡ Err why → read_records (run_pass s) ≡ Err (refusal Run why at)
    so_far_judged why n = here_judged (run_pass s) w.here r next g why (sym (judged r) ∙ n)

    pub so_far_end : check_record s cs at r ≡ passed → is_end r ≡ true → read_records (run_pass s) ≡ and_then (check_end Run s next) (λ u. Ok qs)
    so_far_end n e = here_end (run_pass s) w.here r next g (sym (judged r) ∙ n) e

    -- a state's process has a row, and the row has room
    room_of : (r : Record) → (head_of s).processes ≤ 8 → check_record s cs at r ≡ passed → StateRoomy r ix
    room_of (R.Head h) few n = tt
    room_of (R.Channel m) few n = tt
    room_of R.End few n = tt
    room_of (R.State f) few n =
        let k = state_ok s cs f n in
        let row : f.process < 8 = omega (arith, k.names.process) in
        (row, rw (get_or-take 8 ix f.process 0 row) at k.room)

    -- a record that isn't the end, and what is noted of it
    index_of : (r : Record) → r ≡ record_at s at → StateRoomy r ix → (ix' : List ℕ) → StateNoted r at ix ix' → Indexed s (more r at qs) ix' × Fresh partners_part ix'
    index_of (R.Head h) e m ix' v = rw v (w.index, w.fresh)
    index_of (R.Channel l) e m ix' v = rw v (w.index, w.fresh)
    index_of R.End e m ix' v = rw v (w.index, w.fresh)
    index_of (R.State f) e m ix' v =
        let t = state_there s at f (record_stepped s at next r g).opening (sym e) in
        let own = ap (λ x. x.process) (sym t.fields) in
        rw v (
          index_more s qs ix at f.process own w.index m.0 w.long m.1,
          fresh_more s qs ix at f.process own w.index m.0 m.1 w.fresh,
        )

    module _ (n : check_record s cs at r ≡ passed) (e : is_end r ≡ false) where
      along : RunAlong s next (more r at qs)
      along = along_next s at next qs r w.along g (sym (judged r) ∙ n) e

      -- what keeping a state requires
      pub so_far_roomy : StateRoomy r ix
      so_far_roomy = let d = record_stepped s at next r g in room_of r (along.head (λ z. omega (arith, d.further))).few n

      pub so_far_more : (ix' : List ℕ) → length ix' ≡ length ix → StateNoted r at ix ix' → IndexSoFar s ix' next
      so_far_more ix' long v =
          let d = record_stepped s at next r g in
          let i = index_of r d.item so_far_roomy ix' v in record {
            states = more r at qs;
            here = here_more (run_pass s) w.here r next g (sym (judged r) ∙ n) e d.further d.within;
            along = along;
            index = i.0;
            fresh = i.1;
            long = long ∙ w.long;
          }

-- ---- the pass's answer at each way out

pub passed_refused : (s : List ℕ) {v : Read} (x : Refusal) (ix : List ℕ) → v ≡ Err x → RunPassed s v (Err x) ix
passed_refused s x ix e = record { answer = sym (ap (reading s) e); index = λ qs z. never (cc); fresh = λ qs z. never (cc) }

pub passed_end : (s : List ℕ) {v : Read} (qs ix : List ℕ) → Indexed s qs ix → Fresh partners_part ix → v ≡ Ok qs → RunPassed s v (Ok (head_of s)) ix
passed_end s qs ix w f e = record {
  answer = sym (ap (reading s) e);
  index = λ qs' z. let same : qs ≡ qs' = cc in rw (← same) w;
  fresh = λ qs' z. f;
}
