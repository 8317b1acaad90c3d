-- What is refused, and with which number and file: a condition that isn't linear as such, each file with its own numbers, and each call with no others.
use Rattle.std.proofs.Common.{Ok}
use mathlib.Core.Path.{◌≡◌, refl, sym, ap, ◌∙◌, subst}
use mathlib.Core.Logic.{◌⊎◌, inl, inr, ⊎_elim}
use mathlib.Core.Bool.{Bool, true, false, not, cond}
use mathlib.Core.List.Memᴰ
use mathlib.Core.List.{List, [], ◌∷◌, ◌++◌, Memᴰ}
use Prim.Native.Nat.{ℕ, zero, suc, ◌+◌, ◌≤◌, ◌<◌}
use native.Mathlib.Omega.{arith}
use borrow.Author.Tests.{le-ltb, ltb-true, ltb-false}
use lib.Dec.{T, eqb, eqb→eq, ltb}
use lib.IntN.{ℤ}
use lib.ListN.{length}
use Rattle.std.specs.Prelude.{Option, Result, Err}
use Rattle.model.specs.Clause.{some_of, every_of}
use Rattle.model.proofs.Lists.{or_T, every_mem}
use Rattle.model.proofs.Numbers.{never}
use Rattle.std.specs.Prelude.{⊤}
use Rattle.record.specs.Refusal.{Check, number, passed, refuse_if, refusal, at_fault, and_then}
use Rattle.record.specs.declared.reasons.Reason.{Reason}
use Rattle.record.specs.declared.reasons.Reason.TheVariants.{TooLong, WrongKind, Pairing, Circle, Clock, NotLinear, NoRoom, WrongCut, NoChannel}
use Rattle.record.specs.Pass.{Pass, check_length, check_end, read_file}
use Rattle.record.specs.Inner.{read_records}
use Rattle.record.specs.Record.{head_of, check_step, step_at}
use Rattle.record.proofs.Laws.{faulty}
use Rattle.record.specs.declared.File.{File}
use Rattle.record.specs.declared.File.TheVariants.{Run, Condition}
use Rattle.record.specs.declared.Head.{Head}
use Rattle.record.specs.declared.Refusal.{Refusal}
use Rattle.record.proofs.Pass.{Here, here_start, here_stopped, here_judged, here_end, here_more, read_short, read_long}
use Rattle.run.specs.Read as R
use Rattle.run.proofs.Accepted.{record_stepped}
use Rattle.judged.specs.Judged.{Judged}
use Rattle.judged.specs.Judged.Judged.{by_pass, by_pairing, by_circle, by_clock, wholly}
use Rattle.judged.specs.Accepted.{RunAccepted}
use Rattle.condition.specs.declared.Test.{Test}
use Rattle.condition.specs.declared.Clause.TheVariants as K
use Rattle.condition.specs.declared.Item.{Item}
use Rattle.condition.specs.declared.Item.TheVariants as I
use Rattle.condition.specs.Items as E
use Rattle.condition.specs.Judge.{check_item}
use Rattle.condition.specs.Read as D
use Rattle.condition.proofs.Laws.{item_stepped}
use Rattle.search.specs.declared.Outcome.{Outcome}
use Rattle.checker.specs.Answered.{Answered, AnsweredListed}
use Rattle.checker.specs.Answered.Answered.{run_refused, cond_refused, few, none, found}
use Rattle.transit.specs.declared.Load.{Load}
use Rattle.questions.specs.Questions.{AskedConsistent, AskedMessages, AskedEach, AskedSatisfies}
use Rattle.theorems.specs.Refusals.{RefusalOf, Over, run_numbers, condition_numbers, Gives}
use Rattle.theorems.proofs.Determined.{refused_once}
use Rattle.theorems.proofs.Demands.{condition_refused_next, not_linear_refused}
use Rattle.theorems.proofs.Chains.Only.{because}
use Rattle.theorems.proofs.Chains.{Only, step, condition_step, record_judged, item_judged}

-- ---- a condition that isn't linear

-- the pass over a condition comes to a place, with nothing refused on the way
pub data Reaches (c : List ℕ) (h : Head) : ℕ → ℕ × List ℕ → Type 0 where
  front : Reaches c h 0 (0, [])
  behind : (at next : ℕ) (k : ℕ × List ℕ) (r : Item) → Reaches c h at k → E.step_at c at k.0 ≡ Ok (r, next) → check_item h r ≡ passed → D.is_end r ≡ false
      → Reaches c h next (D.owing r k.0, D.more r at k.1)

reached : {c : List ℕ} {h : Head} {at : ℕ} {k : ℕ × List ℕ} → Reaches c h at k → Here (D.condition_pass c h) at k
reached {c} {h} front = here_start (D.condition_pass c h)
reached {c} {h} (behind at next k r w g n e) =
    let d = item_stepped c at k.0 next r g in
    here_more (D.condition_pass c h) (reached w) r next g n e d.further d.within

length_passed : (f : File) (s : List ℕ) → length s ≤ 65535 → check_length f s ≡ Ok tt
unfolding check_length refuse_if
length_passed f s h = simp (le-ltb _ _ h)

-- "A condition that isn't linear is refused as such": where its first faulty record is a clause with test 8 or 9 of a channel that exists, with 14 at that record
pub not_linear_answered : {s c lent lent' : List ℕ} {a : Result Outcome Refusal} {at next : ℕ} {k : ℕ × List ℕ} (t : Test) → RunAccepted s → length c ≤ 65535 → Reaches c (head_of s) at k
    → E.step_at c at k.0 ≡ Ok (I.Clause (K.Channel t), next) → t.channel < (head_of s).channels → (t.test ≡ 8) ⊎ (t.test ≡ 9)
    → Answered s c lent lent' a → a ≡ Err (refusal Condition NotLinear at)
unfolding D.read_of
not_linear_answered {s} {c} {at = at} {next} t v short w g l e u =
    let p = D.condition_pass c (head_of s) in
    condition_refused_next v (read_short p (length_passed Condition c short)
    ∙ here_judged p (reached w) (I.Clause (K.Channel t)) next g NotLinear (not_linear_refused (head_of s) t l e)) u

-- ---- each refusal has its file, and one of that file's numbers

-- a reason whose number is one of these
abbrev Among : List ℕ → Reason → Type 0
Among ns r = Memᴰ (number r) ns

in_list : (ns : List ℕ) {n : ℕ} → T (some_of (eqb n) ns) → Memᴰ n ns
in_list [] t = absurd t
in_list (m ∷ ns) {n} t = elim (or_T (eqb n m) (some_of (eqb n) ns) t) [ inl u ↦ Memᴰ.head (eqb→eq n m u) | inr u ↦ Memᴰ.tail (in_list ns u) ]

refusal_of : (f : File) {ns : List ℕ} (r : Reason) (place : ℕ) (after : Bool) → Among ns r → RefusalOf f ns (record { file = f; reason = r; place = place; after = after })
refusal_of f r place after m = record { number = m; file = refl }

reason_of : {P : Reason → Type 0} {r : Reason} → Only P (Err r) → P r
reason_of (because p) = p

-- what the tests of a record say, as the refusal of a file
fault_of : (f : File) (ns : List ℕ) (place : ℕ) (check : Check) (x : Refusal) → Only (Among ns) check → at_fault f place check ≡ Err x → RefusalOf f ns x
fault_of f ns place check x w e =
    let (why, refused, same) = faulty f place check x e in
    subst (RefusalOf f ns) (sym same) (refusal_of f why place false (reason_of (subst (Only (Among ns)) refused w)))

module _ (f : File) (ns : List ℕ) (kind : Among ns WrongKind) where
  end_of : (s : List ℕ) (next : ℕ) (x : Refusal) → check_end f s next ≡ Err x → RefusalOf f ns x
  unfolding check_end
  end_of s next x e = go (ltb next (length s)) e
    where
      go : (t : Bool) → ◌≡◌ {A = Result ⊤ Refusal} (cond t (Err (record { file = f; reason = WrongKind; place = next; after = true })) (Ok tt)) (Err x) → RefusalOf f ns x
      go true e = let same : record { file = f; reason = WrongKind; place = next; after = true } ≡ x = cc in subst (RefusalOf f ns) same (refusal_of f WrongKind next true kind)
      go false e = never (cc)

module _ {Item Known : Type 0} (p : Pass Item Known) (ns : List ℕ) (kind : Among ns WrongKind)
    (stopped : (at : ℕ) (k : Known) (x : Refusal) → p.step at k ≡ Err x → RefusalOf p.file ns x)
    (judged : (at : ℕ) (k : Known) (r : Item) → Only (Among ns) (p.judge at k r))
    (on : (at next : ℕ) (k : Known) (r : Item) → p.step at k ≡ Ok (r, next) → (at < next) × (next ≤ length p.bytes))
    (x : Refusal) where
  abbrev Right : Refusal → Type 0
  Right = RefusalOf p.file ns

  module _ (e : read_records p ≡ Err x) where
    -- a record is refused so, or else the pass goes on behind it
    goes_on : {at : ℕ} {k : Known} → Here p at k → ((r : Item) (next : ℕ) → p.step at k ≡ Ok (r, next) → Here p next (p.more r at k) → Right x) → Right x
    goes_on {at} {k} here rest = by_step (p.step at k) refl
      where
        by_end : (r : Item) (next : ℕ) (t : Result ⊤ Refusal) → check_end p.file p.bytes next ≡ t → and_then t (λ u. Ok (p.places k)) ≡ Err x → Right x
        by_end r next (Err y) g w = let same : y ≡ x = cc in subst Right same (end_of p.file ns kind p.bytes next y g)
        by_end r next (Ok u) g w = never (cc)

        by_judge : (r : Item) (next : ℕ) → p.step at k ≡ Ok (r, next) → (t : Check) → p.judge at k r ≡ t → (u : Bool) → p.is_end r ≡ u → Right x
        by_judge r next g (Err why) a u b =
            subst Right (refused_once (here_judged p here r next g why a) e) (refusal_of p.file why at false (reason_of (subst (Only (Among ns)) a (judged at k r))))
        by_judge r next g (Ok u) a true b = by_end r next (check_end p.file p.bytes next) refl (sym (here_end p here r next g a b) ∙ e)
        by_judge r next g (Ok u) a false b = let l = on at next k r g in rest r next g (here_more p here r next g a b l.0 l.1)

        by_step : (v : Result (Item × ℕ) Refusal) → p.step at k ≡ v → Right x
        by_step (Err y) g = subst Right (refused_once (here_stopped p here y g) e) (stopped at k y g)
        by_step (Ok (r, next)) g = by_judge r next g (p.judge at k r) refl (p.is_end r) refl

    -- by how much of the file is left
    from_here : (m : ℕ) {at : ℕ} {k : Known} → length p.bytes ≤ at + m → Here p at k → Right x
    from_here zero {at} {k} h here = goes_on here (λ r next g w. let l = on at next k r g in absurd (omega (arith, h, l.0, l.1)))
    from_here (suc m) {at} {k} h here = goes_on here (λ r next g w. let l = on at next k r g in from_here m (omega (arith, h, l.0)) w)

  -- the file is too long, or one of its records is refused so
  file_refused : read_file p ≡ Err x → Over p.file p.bytes x ⊎ Right x
  file_refused e = by_length (ltb 65535 (length p.bytes)) refl
    where
      by_length : (t : Bool) → ltb 65535 (length p.bytes) ≡ t → Over p.file p.bytes x ⊎ Right x
      by_length true g = let h = ltb-true _ _ g in inl (h, refused_once e (read_long p h))
      by_length false g =
          inr (from_here (sym (read_short p (length_passed p.file p.bytes (ltb-false _ _ g))) ∙ e) (length p.bytes) (omega arith) (here_start p))

-- the numbers that records are refused with: those of the file but for 1
abbrev of_records : List ℕ → List ℕ
of_records [] = []
of_records (n ∷ ns) = ns

file_numbered : (f : File) (ns s : List ℕ) {x : Refusal} → Over f s x ⊎ RefusalOf f ns x → RefusalOf f (1 ∷ ns) x
file_numbered f ns s (inl (h, e)) = subst (RefusalOf f (1 ∷ ns)) (sym e) (refusal_of f TooLong 0 false (Memᴰ.head refl))
file_numbered f ns s (inr w) = record { number = Memᴰ.tail w.number; file = w.file }

other_than : (m : ℕ) {n : ℕ} {ns : List ℕ} → T (every_of (λ n. not (eqb n m)) ns) → Memᴰ n ns → T (not (eqb n m))
other_than m t i = every_mem (λ n. not (eqb n m)) t i

-- where no record is refused with 1, the file is too long
only_long : (f : File) (ns s : List ℕ) {x : Refusal} → T (every_of (λ n. not (eqb n 1)) ns) → Over f s x ⊎ RefusalOf f ns x → x.reason ≡ TooLong → Over f s x
only_long f ns s t (inl v) e = v
only_long f ns s t (inr w) e = absurd (subst (λ r. T (not (eqb (number r) 1))) e (other_than 1 t w.number))

-- of a run that the pass refuses
stopped_at : {A : Type 0} (f : File) (ns : List ℕ) (at : ℕ) (check : Check) (item : A) (x : Refusal) → Only (Among ns) check
    → and_then (at_fault f at check) (λ u. Ok item) ≡ Err x → RefusalOf f ns x
stopped_at f ns at (Err why) item x w e = let same : refusal f why at ≡ x = cc in fault_of f ns at (Err why) x w (ap Err same)
stopped_at f ns at (Ok u) item x w e = never (cc)

step_refused : (ns : List ℕ) (s : List ℕ) (at : ℕ) (x : Refusal) → Only (Among ns) (check_step s at) → step_at s at ≡ Err x → RefusalOf Run ns x
unfolding step_at
step_refused ns s at x w e = stopped_at Run ns at (check_step s at) _ x w e

pass_refused : (s : List ℕ) (x : Refusal) → R.read_of s ≡ Err x → Over Run s x ⊎ RefusalOf Run (of_records run_numbers) x
unfolding R.read_of
pass_refused s x e =
    let ns = of_records run_numbers in
    file_refused (R.run_pass s) ns (in_list ns tt)
    (λ at k y g. step_refused ns s at y (step (Among ns) s at (in_list ns tt) (in_list ns tt) (in_list ns tt) (in_list ns tt)) g)
    (λ at k r. record_judged (Among ns) s (R.counts_of s k) at r (in_list ns tt) (in_list ns tt) (in_list ns tt) (in_list ns tt) (in_list ns tt))
    (λ at next k r g. let d = record_stepped s at next r g in (d.further, d.within)) x e

-- "A refusal gives the file, the number": of a run it says the run, and has one of 1 to 13,
pub run_refusal : {s : List ℕ} {x : Refusal} → Judged s (Err x) → RefusalOf Run run_numbers x
run_refusal {s} {x} j = go j refl
  where
    as_refused : {y : Refusal} → RefusalOf Run run_numbers y → ◌≡◌ {A = Result Head Refusal} (Err y) (Err x) → RefusalOf Run run_numbers x
    as_refused {y} w e = let same : y ≡ x = cc in subst (RefusalOf Run run_numbers) same w

    go : {r : Result Head Refusal} → Judged s r → r ≡ Err x → RefusalOf Run run_numbers x
    go (by_pass y d) e = as_refused (file_numbered Run _ s (pass_refused s y d)) e
    go (by_pairing at d w) e = as_refused (refusal_of Run Pairing at false (in_list run_numbers tt)) e
    go (by_circle at d n w) e = as_refused (refusal_of Run Circle at false (in_list run_numbers tt)) e
    go (by_clock at d n m w) e = as_refused (refusal_of Run Clock at false (in_list run_numbers tt)) e
    go (wholly d n m o) e = never (cc)

-- and of a condition the condition, with one of 1 to 5, 7, 8 and 14
item_refused : (ns c : List ℕ) (at owed : ℕ) (x : Refusal) → Only (Among ns) (E.check_step c at owed) → E.step_at c at owed ≡ Err x → RefusalOf Condition ns x
unfolding E.step_at
item_refused ns c at owed x w e = stopped_at Condition ns at (E.check_step c at owed) _ x w e

condition_pass_refused : (c : List ℕ) (h : Head) (x : Refusal) → D.read_of c h ≡ Err x → Over Condition c x ⊎ RefusalOf Condition (of_records condition_numbers) x
unfolding D.read_of
condition_pass_refused c h x e =
    let ns = of_records condition_numbers in
    file_refused (D.condition_pass c h) ns (in_list ns tt)
    (λ at k y g. item_refused ns c at k.0 y (condition_step (Among ns) c at k.0 (in_list ns tt) (in_list ns tt) (in_list ns tt)) g)
    (λ at k r. item_judged (Among ns) h r (in_list ns tt) (in_list ns tt) (in_list ns tt) (in_list ns tt))
    (λ at next k r g. let d = item_stepped c at k.0 next r g in (d.further, d.within)) x e

pub condition_refusal : (c : List ℕ) (h : Head) (x : Refusal) → D.read_of c h ≡ Err x → RefusalOf Condition condition_numbers x
condition_refusal c h x e = file_numbered Condition _ c (condition_pass_refused c h x e)

-- ---- 1 is said of a file that is too long, and of no other: a pass never runs out of records to look at

pub run_long : {s : List ℕ} {x : Refusal} → Judged s (Err x) → x.reason ≡ TooLong → Over Run s x
run_long {s} {x} j l = go j refl
  where
    go : {r : Result Head Refusal} → Judged s r → r ≡ Err x → Over Run s x
    go (by_pass y d) e = let same : y ≡ x = cc in only_long Run (of_records run_numbers) s tt (pass_refused s x (rw same at d)) l
    go (by_pairing at d w) e = never (cc)
    go (by_circle at d n w) e = never (cc)
    go (by_clock at d n m w) e = never (cc)
    go (wholly d n m o) e = never (cc)

pub condition_long : (c : List ℕ) (h : Head) (x : Refusal) → D.read_of c h ≡ Err x → x.reason ≡ TooLong → Over Condition c x
condition_long c h x e l = only_long Condition (of_records condition_numbers) c tt (condition_pass_refused c h x e) l

-- and so it is of the search's answer
pub answer_long : {s c lent lent' : List ℕ} {a : Result Outcome Refusal} (x : Refusal) → Answered s c lent lent' a → a ≡ Err x → x.reason ≡ TooLong → Over Run s x ⊎ Over Condition c x
answer_long x (run_refused y j d) e l = let same : y ≡ x = cc in inl (run_long (rw same at j) l)
answer_long x (cond_refused y j d r) e l = let same : y ≡ x = cc in inr (condition_long _ _ x (rw same at d) l)
answer_long x (few b h d) e l = never (cc)
answer_long x (none b h n d) e l = never (cc)
answer_long x (found b h cut f w) e l = never (cc)

-- ---- which numbers each public call can give

more : {f : File} {ns : List ℕ} (ms : List ℕ) {x : Refusal} → RefusalOf f ns x → RefusalOf f (ns ++ ms) x
more ms w = record { number = Memᴰ.append_left ms w.number; file = w.file }

-- what a call gives: the run's refusals with its own, and the condition's
module _ (own of-condition : List ℕ) where
  abbrev Given : Refusal → Type 0
  Given = Gives (run_numbers ++ own) of-condition

  of_run : {s : List ℕ} {x y : Refusal} → Judged s (Err y) → y ≡ x → Given x
  of_run j same = subst Given same (inl (more own (run_refusal j)))

  of_call : (r : Reason) {x : Refusal} → Memᴰ (number r) own → refusal Run r 0 ≡ x → Given x
  of_call r m same = subst Given same (inl (refusal_of Run r 0 false (Memᴰ.append_right run_numbers m)))

of_the_condition : (own c : List ℕ) (h : Head) {x y : Refusal} → D.read_of c h ≡ Err y → y ≡ x → Given own condition_numbers x
of_the_condition own c h {y = y} d same = subst (Given own condition_numbers) same (inr (condition_refusal c h y d))

-- `first_cut`
pub search_gives : {s c lent lent' : List ℕ} {a : Result Outcome Refusal} (x : Refusal) → Answered s c lent lent' a → a ≡ Err x → Gives (run_numbers ++ (15 ∷ [])) condition_numbers x
search_gives x (run_refused y j d) e = of_run _ _ j (cc)
search_gives x (cond_refused y j d r) e = of_the_condition _ _ _ d (cc)
search_gives x (few b h d) e = of_call _ _ NoRoom (in_list _ tt) (cc)
search_gives x (none b h n d) e = never (cc)
search_gives x (found b h cut f w) e = never (cc)

-- `first_cut_listed`
pub listed_gives : {s c lent lent' counts counts' : List ℕ} {stamps stamps' : List ℤ} {a : Result Outcome Refusal} (x : Refusal) → AnsweredListed s c lent lent' counts counts' stamps stamps' a → a ≡ Err x → Gives (run_numbers ++ (15 ∷ [])) condition_numbers x
listed_gives x (AnsweredListed.few_row b h d r t) e = of_call _ _ NoRoom (in_list _ tt) (cc)
listed_gives x (AnsweredListed.unlisted a n h w r t) e = search_gives x w e
listed_gives x (AnsweredListed.listed h w cut f v u) e = never (cc)

-- `is_consistent`
pub consistent_gives : {s cut : List ℕ} {a : Result Bool Refusal} (x : Refusal) → AskedConsistent s cut a → a ≡ Err x → Gives (run_numbers ++ (16 ∷ [])) [] x
consistent_gives x (AskedConsistent.run_refused y j) e = of_run _ _ j (cc)
consistent_gives x (AskedConsistent.not_cut j n) e = of_call _ _ WrongCut (in_list _ tt) (cc)
consistent_gives x (AskedConsistent.yes j i t) e = never (cc)
consistent_gives x (AskedConsistent.no j i t) e = never (cc)

-- `messages_on`
pub messages_gives : {s cut : List ℕ} {channel : ℕ} {a : Result (Option Load) Refusal} (x : Refusal) → AskedMessages s cut channel a → a ≡ Err x → Gives (run_numbers ++ (16 ∷ 17 ∷ [])) [] x
messages_gives x (AskedMessages.run_refused y j) e = of_run _ _ j (cc)
messages_gives x (AskedMessages.not_cut j n) e = of_call _ _ WrongCut (in_list _ tt) (cc)
messages_gives x (AskedMessages.no_such_channel j i h) e = of_call _ _ NoChannel (in_list _ tt) (cc)
messages_gives x (AskedMessages.empty j i h n) e = never (cc)
messages_gives x (AskedMessages.messages j i h y w) e = never (cc)

-- `messages_on_each`
pub each_gives : {s cut counts counts' : List ℕ} {stamps stamps' : List ℤ} {a : Result Unit Refusal} (x : Refusal) → AskedEach s cut counts counts' stamps stamps' a → a ≡ Err x → Gives (run_numbers ++ (15 ∷ 16 ∷ [])) [] x
each_gives x (AskedEach.run_refused y j d d') e = of_run _ _ j (cc)
each_gives x (AskedEach.not_cut j n d d') e = of_call _ _ WrongCut (in_list _ tt) (cc)
each_gives x (AskedEach.few j i h d d') e = of_call _ _ NoRoom (in_list _ tt) (cc)
each_gives x (AskedEach.listed j i h w v) e = never (cc)

-- `satisfies`
pub satisfies_gives : {s c cut : List ℕ} {a : Result Bool Refusal} (x : Refusal) → AskedSatisfies s c cut a → a ≡ Err x → Gives (run_numbers ++ (16 ∷ [])) condition_numbers x
satisfies_gives x (AskedSatisfies.run_refused y j) e = of_run _ _ j (cc)
satisfies_gives x (AskedSatisfies.condition_refused y j d) e = of_the_condition _ _ _ d (cc)
satisfies_gives x (AskedSatisfies.not_cut j d n) e = of_call _ _ WrongCut (in_list _ tt) (cc)
satisfies_gives x (AskedSatisfies.yes j d t) e = never (cc)
satisfies_gives x (AskedSatisfies.no j d i t) e = never (cc)

-- one step of the reader: `first`, `read_at`, `next`
pub step_gives : (s : List ℕ) (at : ℕ) {x : Refusal} → step_at s at ≡ Err x → Gives (2 ∷ 3 ∷ 4 ∷ 6 ∷ []) [] x
step_gives s at {x} e =
    let ns : List ℕ = 2 ∷ 3 ∷ 4 ∷ 6 ∷ [] in
    inl (step_refused ns s at x (step (Among ns) s at (in_list ns tt) (in_list ns tt) (in_list ns tt) (in_list ns tt)) e)

-- "No refusal has number 0": and so no answer has
pub answer_numbered : {s c lent lent' : List ℕ} {a : Result Outcome Refusal} (x : Refusal) → Answered s c lent lent' a → a ≡ Err x → number x.reason ≡ 0 → ⊥
answer_numbered x w e z = ⊎_elim (λ v. not_0 (other_than 0 tt v.number)) (λ v. not_0 (other_than 0 tt v.number)) (search_gives x w e)
  where
    not_0 : T (not (eqb (number x.reason) 0)) → ⊥
    not_0 t = subst (λ n. T (not (eqb n 0))) z t
