-- What the checker promises of its answers, for all bytes of run and condition. Above each theorem stands the sentence that it is.
use mathlib.Core.Path.{◌≡◌, refl, sym, ap, ◌∙◌, subst}
use mathlib.Core.Logic.{◌⊎◌, inl, inr, ◌↔◌}
use mathlib.Core.List.{List, ◌++◌, Memᴰ}
use Prim.Native.Nat.{ℕ, ◌+◌, ◌-◌, ◌≤◌, ◌<◌}
use native.Mathlib.Omega.{arith}
use borrow.Author.Tests.{lt-leb}
use lib.Dec.{T}
use lib.ListN.{length, get_or, take, drop, length-append, length-drop, get_or-append}
use lib.Seq.{get_or-append-add, get_or-drop}
use Rattle.std.specs.Prelude.{Result, Ok, Err}
use Rattle.model.proofs.Numbers.{never}
use Rattle.model.specs.Run.{processes}
use Rattle.model.specs.Known.{Known}
use Rattle.model.specs.Cut.{at, Consistent}
use Rattle.model.specs.Same.{SameUpTo}
use Rattle.model.specs.Clause.{Clause, holds, Satisfies, First}
use Rattle.model.specs.Linear.{Linear}
use Rattle.model.proofs.Decide.{has_first}
use Rattle.model.proofs.Past.{nothing_past}
use Rattle.model.proofs.Lattice.{fewer_clauses, no_earlier}
use Rattle.record.specs.Refusal.{refuse_if, refusal}
use Rattle.record.specs.declared.reasons.Reason.TheVariants.{NoRoom, NotLinear}
use Rattle.record.specs.Record.{head_of}
use Rattle.record.specs.declared.File.TheVariants.{Run}
use Rattle.record.specs.declared.Head.{Head}
use Rattle.record.specs.declared.Refusal.{Refusal}
use Rattle.run.specs.Said.{run_in}
use Rattle.run.proofs.Listed.{processes_are, channels_are}
use Rattle.judged.specs.Judged.{Judged}
use Rattle.record.specs.Pass.{places_in}
use Rattle.condition.specs.Read.{read_of, clauses_in}
use Rattle.condition.specs.Clauses.{test_of}
use Rattle.condition.specs.Judge.{check_test}
use Rattle.condition.specs.declared.Test.{Test}
use Rattle.condition.proofs.Accepted.{condition_linear}
use Rattle.search.specs.declared.Outcome.{Outcome}
use Rattle.search.specs.declared.Outcome.TheVariants as O
use Rattle.judged.specs.Accepted.{RunAccepted}
use Rattle.condition.specs.Accepted.{ConditionAccepted}
use Rattle.condition.specs.Known.{clauses_for}
use Rattle.cut.specs.Listing.{Wrote}
use Rattle.checker.specs.Answered.{Both, Answered}
use Rattle.checker.specs.Answered.Answered.{run_refused, cond_refused, few, none, found}
use Rattle.judged.proofs.Acceptance.{accepted_read, accepted_known}
use Rattle.checker.proofs.Rows.{take_written}
use Rattle.theorems.proofs.Determined.{answered_one}

-- the cut that the lent places hold
abbrev pub cut_in : List ℕ → List ℕ → List ℕ
cut_in s lent = take (head_of s).processes lent

-- ---- demand 1

module _ {s c lent lent' : List ℕ} where
  -- "Bad input is refused by number and place in the stated order": the whole run,
  pub run_refused_first : {x : Refusal} {a : Result Outcome Refusal} → Judged s (Err x) → Answered s c lent lent' a → a ≡ Err x
  run_refused_first v w = (answered_one w (run_refused _ v refl)).0

  -- the whole condition,
  pub condition_refused_next : {x : Refusal} {a : Result Outcome Refusal} → RunAccepted s → read_of c (head_of s) ≡ Err x → Answered s c lent lent' a → a ≡ Err x
  condition_refused_next v e w = (answered_one w (cond_refused _ v e refl)).0

  -- then 15.
  pub no_room_last : {a : Result Outcome Refusal} → Both s c → length lent < (head_of s).processes → Answered s c lent lent' a → a ≡ Err (refusal Run NoRoom 0)
  no_room_last v h w = (answered_one w (few v h refl)).0

  only_found_writes : {a : Result Outcome Refusal} → Answered s c lent lent' a → ¬ (a ≡ Ok O.Found) → lent' ≡ lent
  only_found_writes (run_refused y v k) n = k
  only_found_writes (cond_refused y v r k) n = k
  only_found_writes (few v h k) n = k
  only_found_writes (none v h z k) n = k
  only_found_writes (found v h cut f w) n = absurd (n refl)

  -- "A refusal changes nothing in lent memory,"
  pub refusal_changes_nothing : {x : Refusal} → Answered s c lent lent' (Err x) → lent' ≡ lent
  refusal_changes_nothing w = only_found_writes w (λ e. never (cc))

  -- nor does none.
  pub none_changes_nothing : Answered s c lent lent' (Ok O.NoCut) → lent' ≡ lent
  none_changes_nothing w = only_found_writes w (λ e. never (cc))

-- ---- demand 2

pub known : {s : List ℕ} → RunAccepted s → Known (run_in s)
known v = accepted_known v refl

pub size : {s : List ℕ} → RunAccepted s → processes (run_in s) ≡ (head_of s).processes
size {s} v = processes_are s (accepted_read v refl)

-- "A non-linear condition is refused": none is accepted, and 14 is given to a clause with test 8 or 9 whose channel exists
pub linear : {s c : List ℕ} → Both s c → Linear (clauses_for s c)
unfolding clauses_in
linear {s} {c} v = condition_linear c (head_of s) (places_in (read_of c (head_of s))) v.cond

pub not_linear_refused : (h : Head) (t : Test) → t.channel < h.channels → (t.test ≡ 8) ⊎ (t.test ≡ 9) → check_test h t ≡ Err NotLinear
unfolding check_test test_of refuse_if
not_linear_refused h t l (inl e) = rw (e, lt-leb h.channels t.channel l) refl
not_linear_refused h t l (inr e) = rw (e, lt-leb h.channels t.channel l) refl

-- what was named: the first cut, which stands in the front of the lent places
pub record Named (s c lent lent' : List ℕ) : Type 0 where
  pub both : Both s c
  pub room : (head_of s).processes ≤ length lent
  pub first : First (run_in s) (clauses_for s c) (cut_in s lent')
  pub wrote : Wrote (cut_in s lent') lent lent'

module _ {s c lent lent' : List ℕ} where
  pub named : {a : Result Outcome Refusal} → Answered s c lent lent' a → a ≡ Ok O.Found → Named s c lent lent'
  named (run_refused y v k) e = never (cc)
  named (cond_refused y v r k) e = never (cc)
  named (few v h k) e = never (cc)
  named (none v h n k) e = never (cc)
  named (found v h cut f w) e =
      let same = take_written (head_of s).processes (sym (f.satisfies.is_cut.size ∙ size v.run)) h w in
      record { both = v; room = h; first = subst (First (run_in s) (clauses_for s c)) (sym same) f; wrote = subst (λ cut. Wrote cut lent lent') (sym same) w }

  -- "The cut named is consistent,
  pub found_consistent : Answered s c lent lent' (Ok O.Found) → Consistent (run_in s) (cut_in s lent')
  found_consistent w = (named w refl).first.satisfies.consistent

  -- meets every clause,
  pub found_meets_every_clause : Answered s c lent lent' (Ok O.Found) → (k : Clause) → Memᴰ k (clauses_for s c) → T (holds (run_in s) (cut_in s lent') k)
  found_meets_every_clause w = (named w refl).first.satisfies.clauses

  -- and is at or before every other such cut at every station."
  pub found_before_every_other : Answered s c lent lent' (Ok O.Found) → (d : List ℕ) → Satisfies (run_in s) (clauses_for s c) d → (i : ℕ) → at (cut_in s lent') i ≤ at d i
  found_before_every_other w = (named w refl).first.least

  -- a first cut and room for it: found, with that cut in the places
  pub first_found : Both s c → (head_of s).processes ≤ length lent → {cut : List ℕ} → First (run_in s) (clauses_for s c) cut → Wrote cut lent lent' → Answered s c lent lent' (Ok O.Found)
  first_found v h {cut} f w = found v h cut f w

  -- "None exactly if no such cut exists."
  pub none_exactly : Both s c → (head_of s).processes ≤ length lent → {a : Result Outcome Refusal} → Answered s c lent lent' a
      → (a ≡ Ok O.NoCut) ↔ ((d : List ℕ) → ¬ Satisfies (run_in s) (clauses_for s c) d)
  none_exactly v h w = (no_cut w, λ n. (answered_one w (none v h n refl)).0)
    where
      no_cut : {a : Result Outcome Refusal} → Answered s c lent lent' a → a ≡ Ok O.NoCut → (d : List ℕ) → ¬ Satisfies (run_in s) (clauses_for s c) d
      no_cut (run_refused y v k) e = never (cc)
      no_cut (cond_refused y v r k) e = never (cc)
      no_cut (few v h k) e = never (cc)
      no_cut (none v h n k) e = n
      no_cut (found v h cut f w) e = never (cc)

-- a cut ahead of the other places
pub written : (cut lent : List ℕ) → length cut ≤ length lent → Wrote cut lent (cut ++ drop (length cut) lent)
written cut lent h = record {
  long = length-append cut (drop (length cut) lent) ∙ omega (arith, length-drop (length cut) lent);
  front = λ i l. get_or-append cut (drop (length cut) lent) 0 i l;
  past = λ i l.
      let n = i - length cut in
      let e : length cut + n ≡ i = omega arith in
      ap (λ i. get_or (cut ++ drop (length cut) lent) i 0) (sym e) ∙ get_or-append-add cut (drop (length cut) lent) n 0 ∙ get_or-drop (length cut) lent n 0 ∙ ap (λ i. get_or lent i 0) e;
}

-- where some cut satisfies the answer is found
pub found_exactly : {s c lent lent' : List ℕ} → Both s c → (head_of s).processes ≤ length lent → {a : Result Outcome Refusal} → Answered s c lent lent' a
    → (a ≡ Ok O.Found) ↔ ((d : List ℕ) × Satisfies (run_in s) (clauses_for s c) d)
found_exactly {s} {c} {lent} {lent'} v h {a} w = (λ e. let n = named w e in (cut_in s lent', n.first.satisfies), some)
  where
    some : ((d : List ℕ) × Satisfies (run_in s) (clauses_for s c) d) → a ≡ Ok O.Found
    some (d, x) =
        let (cut, f) = has_first (run_in s) (known v.run) (clauses_for s c) (linear v) d x in
        (answered_one w (first_found v h f (written cut lent (omega (arith, h, f.satisfies.is_cut.size, size v.run))))).0

-- ---- demand 3

head_same : (g h : Head) → g.processes ≡ h.processes → g.channels ≡ h.channels → g ≡ h
head_same g h e d = ap (λ x. record { processes = x; channels = g.channels }) e ∙ ap (λ x. record { processes = h.processes; channels = x }) d

-- "Nothing past the cut counts: two accepted runs with the same stations and channels that agree up to one's first cut have the same first cut."
pub nothing_past_counts : {s t c lent lent' other other' : List ℕ} {a : Result Outcome Refusal}
    → Answered s c lent lent' (Ok O.Found) → RunAccepted t → SameUpTo (cut_in s lent') (run_in s) (run_in t) → (head_of t).processes ≤ length other → Answered t c other other' a
    → (a ≡ Ok O.Found) × (cut_in t other' ≡ cut_in s lent')
nothing_past_counts {s} {t} {c} {lent} {lent'} {other} w v same room u =
    let n = named w refl in
    let read = accepted_read n.both.run refl in
    let read' = accepted_read v refl in
    let e : head_of s ≡ head_of t = head_same (head_of s) (head_of t)
    (sym (processes_are s read) ∙ same.processes ∙ processes_are t read')
    (sym (channels_are s read) ∙ ap length same.channels ∙ channels_are t read') in
    let f : First (run_in t) (clauses_for s c) (cut_in s lent') = nothing_past (known n.both.run) (known v) (linear n.both) same n.first in
    let long : length (cut_in s lent') ≡ (head_of t).processes = f.satisfies.is_cut.size ∙ size v in
    let x = written (cut_in s lent') other (omega (arith, room, long)) in
    let o = answered_one u (first_found
    (record { run = v; cond = subst (λ h. read_of c h ≡ Ok (places_in (read_of c h))) e n.both.cond })
    room
    (subst (λ h. First (run_in t) (clauses_in c h) (cut_in s lent')) e f)
    x) in
    (o.0, ap (cut_in t) o.1 ∙ take_written (head_of t).processes (sym long) room x)

-- "More clauses never give an earlier cut."
pub more_never_earlier : {s c more lent lent' other other' : List ℕ} {a : Result Outcome Refusal}
    → Answered s more other other' (Ok O.Found) → ConditionAccepted s c → ((k : Clause) → Memᴰ k (clauses_for s c) → Memᴰ k (clauses_for s more))
    → (head_of s).processes ≤ length lent → Answered s c lent lent' a
    → (a ≡ Ok O.Found) × ((i : ℕ) → at (cut_in s lent') i ≤ at (cut_in s other') i)
more_never_earlier {s} {c} {more} {lent} {lent'} {other} {other'} w v all room u =
    let n = named w refl in
    let b : Both s c = record { run = n.both.run; cond = v } in
    let e = (found_exactly b room u).1 (cut_in s other', fewer_clauses all n.first.satisfies) in
    (e, no_earlier all (named u e).first n.first)
