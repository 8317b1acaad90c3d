-- Each public contract allows one answer: any two answers that it allows for the same input are equal, with the lent places that they leave.
use mathlib.Core.Path.{◌≡◌, refl, sym, ap, ◌∙◌}
use mathlib.Core.Logic.{◌⊎◌, inl, inr, ⊎_elim}
use mathlib.Core.Bool.{cond}
use mathlib.Core.List.{List, [], ◌∷◌}
use Prim.Native.Nat.{ℕ, suc, ◌≤◌, ◌<◌}
use native.Mathlib.Omega.{arith}
use lib.Dec.{eqb}
use lib.IntN.{ℤ, pos}
use lib.ListN.{length, get_or}
use lib.Seq.{ext_get_or}
use Rattle.std.specs.Prelude.{Bool, Option, Some, Result, Ok, Err}
use Rattle.model.specs.declared.Message.{Message}
use Rattle.model.specs.Run.{Run}
use Rattle.model.specs.Cut.{in_transit}
use Rattle.model.proofs.Numbers.{never}
use Rattle.model.proofs.Lists.{le_or_lt}
use Rattle.model.proofs.Lattice.{first_unique}
use Rattle.model.proofs.LowestStamp.{lowest_one, lowest_exactly}
use Rattle.record.specs.declared.Refusal.{Refusal}
use Rattle.record.specs.declared.reasons.Reason.{Reason}
use Rattle.record.specs.declared.reasons.Reason.TheVariants.{TooLong, CutShort, WrongLength, WrongKind, Limit, Format, Name, Field, Start, Side, Pairing}
use Rattle.record.specs.declared.reasons.Reason.TheVariants.{Circle, Clock, NotLinear, NoRoom, WrongCut, NoChannel}
use Rattle.record.specs.Refusal.{number}
use Rattle.record.specs.Reason.{NamesReason}
use Rattle.run.specs.Said.{run_in}
use Rattle.judged.specs.Judged.{Judged}
use Rattle.judged.proofs.Once.{judged_one}
use Rattle.record.specs.Pass as D
use Rattle.search.specs.declared.Outcome.{Outcome}
use Rattle.transit.specs.declared.Load.{Load}
use Rattle.judged.specs.Accepted.{RunAccepted}
use Rattle.cut.specs.Listing.{Wrote, WroteLowest}
use Rattle.checker.specs.Answered.{Answered, AnsweredListed}
use Rattle.checker.specs.Answered.Answered.{run_refused, cond_refused, few, none, found}
use Rattle.questions.specs.Questions.{AskedConsistent, AskedMessages, AskedEach, AskedSatisfies}
use Rattle.answers.specs.Made.{MadeOf}
use Rattle.answers.specs.Made.MadeOf.{made, too_short}

-- the lent places are determined by the cut
pub wrote_one : {cut lent a b : List ℕ} → Wrote cut lent a → Wrote cut lent b → a ≡ b
wrote_one {cut} {lent} {a} {b} v w = ext_get_or 0 a b (v.long ∙ sym w.long)
    (λ i h. ⊎_elim (λ l. v.front i l ∙ sym (w.front i l)) (λ l. v.past i (less l) ∙ sym (w.past i (less l))) (le_or_lt (suc i) (length cut)))
  where
    less : {i n : ℕ} → n < suc i → n ≤ i
    less l = omega arith

-- so is the row of lowest stamps by the cut
pub lowest_wrote_one : {r : Run} {cut : List ℕ} {n : ℕ} {stamps a b : List ℤ} → WroteLowest r cut n stamps a → WroteLowest r cut n stamps b → a ≡ b
lowest_wrote_one {r} {cut} {n} {stamps} {a} {b} v w = ext_get_or (pos 0) a b (v.long ∙ sym w.long)
    (λ c h. ⊎_elim (λ l. there c l (in_transit r cut c) refl) (λ l. v.past c (omega arith) ∙ sym (w.past c (omega arith))) (le_or_lt (suc c) n))
  where
    there : (c : ℕ) → c < n → (ms : List Message) → in_transit r cut c ≡ ms → get_or a c (pos 0) ≡ get_or b c (pos 0)
    there c l [] e = v.empty c l e ∙ sym (w.empty c l e)
    there c l (m ∷ ms) e =
        let (x, u) = (lowest_exactly (in_transit r cut c)).1 (λ d. never (cc)) in
        v.lowest c x l u ∙ sym (w.lowest c x l u)

-- a condition is refused once, and no accepted one is refused
pub refused_once : {v : D.Read} {x y : Refusal} → v ≡ Err x → v ≡ Err y → x ≡ y
refused_once d e = cc

not_read : {v : D.Read} {x : Refusal} {places : List ℕ} → v ≡ Err x → v ≡ Ok places → ⊥
not_read d e = never (cc)

module _ {s : List ℕ} where
  -- a run is refused once, and no accepted run is refused
  same_refusal : {x y : Refusal} → Judged s (Err x) → Judged s (Err y) → x ≡ y
  same_refusal j k = let e = judged_one s j k in cc

  not_both : {x : Refusal} → Judged s (Err x) → RunAccepted s → ⊥
  not_both j k = let e = judged_one s j k in never (cc)

  pub answered_one : {c lent l m : List ℕ} {a b : Result Outcome Refusal} → Answered s c lent l a → Answered s c lent m b → (a ≡ b) × (l ≡ m)
  answered_one (run_refused x v e) (run_refused x' v' e') = (ap Err (same_refusal v v'), e ∙ sym e')
  answered_one (run_refused x v e) (cond_refused x' v' r' e') = absurd (not_both v v')
  answered_one (run_refused x v e) (few v' h' e') = absurd (not_both v v'.run)
  answered_one (run_refused x v e) (none v' h' n' e') = absurd (not_both v v'.run)
  answered_one (run_refused x v e) (found v' h' cut' f' g') = absurd (not_both v v'.run)
  answered_one (cond_refused x v r e) (run_refused x' v' e') = absurd (not_both v' v)
  answered_one (cond_refused x v r e) (cond_refused x' v' r' e') = (ap Err (refused_once r r'), e ∙ sym e')
  answered_one (cond_refused x v r e) (few v' h' e') = absurd (not_read r v'.cond)
  answered_one (cond_refused x v r e) (none v' h' n' e') = absurd (not_read r v'.cond)
  answered_one (cond_refused x v r e) (found v' h' cut' f' g') = absurd (not_read r v'.cond)
  answered_one (few v h e) (run_refused x' v' e') = absurd (not_both v' v.run)
  answered_one (few v h e) (cond_refused x' v' r' e') = absurd (not_read r' v.cond)
  answered_one (few v h e) (few v' h' e') = (refl, e ∙ sym e')
  answered_one (few v h e) (none v' h' n' e') = absurd (omega (arith, h, h'))
  answered_one (few v h e) (found v' h' cut' f' g') = absurd (omega (arith, h, h'))
  answered_one (none v h n e) (run_refused x' v' e') = absurd (not_both v' v.run)
  answered_one (none v h n e) (cond_refused x' v' r' e') = absurd (not_read r' v.cond)
  answered_one (none v h n e) (few v' h' e') = absurd (omega (arith, h, h'))
  answered_one (none v h n e) (none v' h' n' e') = (refl, e ∙ sym e')
  answered_one (none v h n e) (found v' h' cut' f' g') = absurd (n cut' f'.satisfies)
  answered_one (found v h cut f g) (run_refused x' v' e') = absurd (not_both v' v.run)
  answered_one (found v h cut f g) (cond_refused x' v' r' e') = absurd (not_read r' v.cond)
  answered_one (found v h cut f g) (few v' h' e') = absurd (omega (arith, h, h'))
  answered_one (found v h cut f g) (none v' h' n' e') = absurd (n' cut f.satisfies)
  answered_one (found v h cut f g) (found v' h' cut' f' g') = (refl, wrote_one g (rw (first_unique f f') g'))

  pub listed_one : {c lent l m counts q r : List ℕ} {stamps t u : List ℤ} {a b : Result Outcome Refusal} → AnsweredListed s c lent l counts q stamps t a → AnsweredListed s c lent m counts r stamps u b
      → (a ≡ b) × (l ≡ m) × (q ≡ r) × (t ≡ u)
  listed_one (AnsweredListed.few_row v h d e f) (AnsweredListed.few_row v' h' d' e' f') = (refl, d ∙ sym d', e ∙ sym e', f ∙ sym f')
  listed_one (AnsweredListed.few_row v h d e f) (AnsweredListed.unlisted b n g w e' f') = absurd (h (g v))
  listed_one (AnsweredListed.few_row v h d e f) (AnsweredListed.listed g w cut i x y) = absurd (h g)
  listed_one (AnsweredListed.unlisted a n g w e f) (AnsweredListed.few_row v h d e' f') = absurd (h (g v))
  listed_one (AnsweredListed.unlisted a n g w e f) (AnsweredListed.unlisted b n' g' w' e' f') = let (x, y) = answered_one w w' in (x, y, e ∙ sym e', f ∙ sym f')
  listed_one (AnsweredListed.unlisted a n g w e f) (AnsweredListed.listed h w' cut i x y) = absurd (n (answered_one w w').0)
  listed_one (AnsweredListed.listed g w cut i x y) (AnsweredListed.few_row v h d e f) = absurd (h g)
  listed_one (AnsweredListed.listed g w cut i x y) (AnsweredListed.unlisted b n h w' e f) = absurd (n (answered_one w' w).0)
  listed_one (AnsweredListed.listed g w cut i x y) (AnsweredListed.listed h w' cut' i' x' y') =
      let same = first_unique i i' in
      (refl, (answered_one w w').1, wrote_one x (rw same x'), lowest_wrote_one y (rw same y'))

  pub consistent_one : {cut : List ℕ} {a b : Result Bool Refusal} → AskedConsistent s cut a → AskedConsistent s cut b → a ≡ b
  consistent_one (AskedConsistent.run_refused x j) (AskedConsistent.run_refused y k) = ap Err (same_refusal j k)
  consistent_one (AskedConsistent.run_refused x j) (AskedConsistent.not_cut k n) = absurd (not_both j k)
  consistent_one (AskedConsistent.run_refused x j) (AskedConsistent.yes k i t) = absurd (not_both j k)
  consistent_one (AskedConsistent.run_refused x j) (AskedConsistent.no k i t) = absurd (not_both j k)
  consistent_one (AskedConsistent.not_cut j n) (AskedConsistent.run_refused y k) = absurd (not_both k j)
  consistent_one (AskedConsistent.not_cut j n) (AskedConsistent.not_cut k m) = refl
  consistent_one (AskedConsistent.not_cut j n) (AskedConsistent.yes k i t) = absurd (n i)
  consistent_one (AskedConsistent.not_cut j n) (AskedConsistent.no k i t) = absurd (n i)
  consistent_one (AskedConsistent.yes j i t) (AskedConsistent.run_refused y k) = absurd (not_both k j)
  consistent_one (AskedConsistent.yes j i t) (AskedConsistent.not_cut k n) = absurd (n i)
  consistent_one (AskedConsistent.yes j i t) (AskedConsistent.yes k l u) = refl
  consistent_one (AskedConsistent.yes j i t) (AskedConsistent.no k l u) = absurd (u t)
  consistent_one (AskedConsistent.no j i t) (AskedConsistent.run_refused y k) = absurd (not_both k j)
  consistent_one (AskedConsistent.no j i t) (AskedConsistent.not_cut k n) = absurd (n i)
  consistent_one (AskedConsistent.no j i t) (AskedConsistent.yes k l u) = absurd (t u)
  consistent_one (AskedConsistent.no j i t) (AskedConsistent.no k l u) = refl

  pub messages_one : {cut : List ℕ} {channel : ℕ} {a b : Result (Option Load) Refusal} → AskedMessages s cut channel a → AskedMessages s cut channel b → a ≡ b
  messages_one (AskedMessages.run_refused x j) (AskedMessages.run_refused y k) = ap Err (same_refusal j k)
  messages_one (AskedMessages.run_refused x j) (AskedMessages.not_cut k m) = absurd (not_both j k)
  messages_one (AskedMessages.run_refused x j) (AskedMessages.no_such_channel k l h) = absurd (not_both j k)
  messages_one (AskedMessages.run_refused x j) (AskedMessages.empty k l h e) = absurd (not_both j k)
  messages_one (AskedMessages.run_refused x j) (AskedMessages.messages k l h y v) = absurd (not_both j k)
  messages_one (AskedMessages.not_cut j n) (AskedMessages.run_refused y k) = absurd (not_both k j)
  messages_one (AskedMessages.not_cut j n) (AskedMessages.not_cut k m) = refl
  messages_one (AskedMessages.not_cut j n) (AskedMessages.no_such_channel k l h) = absurd (n l)
  messages_one (AskedMessages.not_cut j n) (AskedMessages.empty k l h e) = absurd (n l)
  messages_one (AskedMessages.not_cut j n) (AskedMessages.messages k l h y v) = absurd (n l)
  messages_one (AskedMessages.no_such_channel j i g) (AskedMessages.run_refused y k) = absurd (not_both k j)
  messages_one (AskedMessages.no_such_channel j i g) (AskedMessages.not_cut k m) = absurd (m i)
  messages_one (AskedMessages.no_such_channel j i g) (AskedMessages.no_such_channel k l h) = refl
  messages_one (AskedMessages.no_such_channel j i g) (AskedMessages.empty k l h e) = absurd (omega (arith, g, h))
  messages_one (AskedMessages.no_such_channel j i g) (AskedMessages.messages k l h y v) = absurd (omega (arith, g, h))
  messages_one (AskedMessages.empty j i g d) (AskedMessages.run_refused y k) = absurd (not_both k j)
  messages_one (AskedMessages.empty j i g d) (AskedMessages.not_cut k m) = absurd (m i)
  messages_one (AskedMessages.empty j i g d) (AskedMessages.no_such_channel k l h) = absurd (omega (arith, g, h))
  messages_one (AskedMessages.empty j i g d) (AskedMessages.empty k l h e) = refl
  messages_one (AskedMessages.empty j i g d) (AskedMessages.messages k l h y v) = absurd ((lowest_exactly _).0 (y, v) d)
  messages_one (AskedMessages.messages j i g x w) (AskedMessages.run_refused y k) = absurd (not_both k j)
  messages_one (AskedMessages.messages j i g x w) (AskedMessages.not_cut k m) = absurd (m i)
  messages_one (AskedMessages.messages j i g x w) (AskedMessages.no_such_channel k l h) = absurd (omega (arith, g, h))
  messages_one (AskedMessages.messages j i g x w) (AskedMessages.empty k l h e) = absurd ((lowest_exactly _).0 (x, w) e)
  messages_one {cut} {channel} (AskedMessages.messages j i g x w) (AskedMessages.messages k l h y v) = ap (λ (z : ℤ). Ok (Some (record { count = length (in_transit (run_in s) cut channel); lowest = z }))) (lowest_one w v)

  pub each_one : {cut counts l m : List ℕ} {stamps q r : List ℤ} {a b : Result Unit Refusal} → AskedEach s cut counts l stamps q a → AskedEach s cut counts m stamps r b → (a ≡ b) × (l ≡ m) × (q ≡ r)
  each_one (AskedEach.run_refused x j d d') (AskedEach.run_refused y k e e') = (ap Err (same_refusal j k), d ∙ sym e, d' ∙ sym e')
  each_one (AskedEach.run_refused x j d d') (AskedEach.not_cut k m e e') = absurd (not_both j k)
  each_one (AskedEach.run_refused x j d d') (AskedEach.few k l h e e') = absurd (not_both j k)
  each_one (AskedEach.run_refused x j d d') (AskedEach.listed k l h v y) = absurd (not_both j k)
  each_one (AskedEach.not_cut j n d d') (AskedEach.run_refused y k e e') = absurd (not_both k j)
  each_one (AskedEach.not_cut j n d d') (AskedEach.not_cut k m e e') = (refl, d ∙ sym e, d' ∙ sym e')
  each_one (AskedEach.not_cut j n d d') (AskedEach.few k l h e e') = absurd (n l)
  each_one (AskedEach.not_cut j n d d') (AskedEach.listed k l h v y) = absurd (n l)
  each_one (AskedEach.few j i g d d') (AskedEach.run_refused y k e e') = absurd (not_both k j)
  each_one (AskedEach.few j i g d d') (AskedEach.not_cut k m e e') = absurd (m i)
  each_one (AskedEach.few j i g d d') (AskedEach.few k l h e e') = (refl, d ∙ sym e, d' ∙ sym e')
  each_one (AskedEach.few j i g d d') (AskedEach.listed k l h v y) = absurd (g h)
  each_one (AskedEach.listed j i g w x) (AskedEach.run_refused y k e e') = absurd (not_both k j)
  each_one (AskedEach.listed j i g w x) (AskedEach.not_cut k m e e') = absurd (m i)
  each_one (AskedEach.listed j i g w x) (AskedEach.few k l h e e') = absurd (h g)
  each_one (AskedEach.listed j i g w x) (AskedEach.listed k l h v y) = (refl, wrote_one w v, lowest_wrote_one x y)

  pub satisfies_one : {c cut : List ℕ} {a b : Result Bool Refusal} → AskedSatisfies s c cut a → AskedSatisfies s c cut b → a ≡ b
  satisfies_one (AskedSatisfies.run_refused x j) (AskedSatisfies.run_refused y k) = ap Err (same_refusal j k)
  satisfies_one (AskedSatisfies.run_refused x j) (AskedSatisfies.condition_refused y k e) = absurd (not_both j k)
  satisfies_one (AskedSatisfies.run_refused x j) (AskedSatisfies.not_cut k e m) = absurd (not_both j k)
  satisfies_one (AskedSatisfies.run_refused x j) (AskedSatisfies.yes k e u) = absurd (not_both j k)
  satisfies_one (AskedSatisfies.run_refused x j) (AskedSatisfies.no k e l u) = absurd (not_both j k)
  satisfies_one (AskedSatisfies.condition_refused x j d) (AskedSatisfies.run_refused y k) = absurd (not_both k j)
  satisfies_one (AskedSatisfies.condition_refused x j d) (AskedSatisfies.condition_refused y k e) = ap Err (refused_once d e)
  satisfies_one (AskedSatisfies.condition_refused x j d) (AskedSatisfies.not_cut k e m) = absurd (not_read d e)
  satisfies_one (AskedSatisfies.condition_refused x j d) (AskedSatisfies.yes k e u) = absurd (not_read d e)
  satisfies_one (AskedSatisfies.condition_refused x j d) (AskedSatisfies.no k e l u) = absurd (not_read d e)
  satisfies_one (AskedSatisfies.not_cut j d n) (AskedSatisfies.run_refused y k) = absurd (not_both k j)
  satisfies_one (AskedSatisfies.not_cut j d n) (AskedSatisfies.condition_refused y k e) = absurd (not_read e d)
  satisfies_one (AskedSatisfies.not_cut j d n) (AskedSatisfies.not_cut k e m) = refl
  satisfies_one (AskedSatisfies.not_cut j d n) (AskedSatisfies.yes k e u) = absurd (n u.is_cut)
  satisfies_one (AskedSatisfies.not_cut j d n) (AskedSatisfies.no k e l u) = absurd (n l)
  satisfies_one (AskedSatisfies.yes j d t) (AskedSatisfies.run_refused y k) = absurd (not_both k j)
  satisfies_one (AskedSatisfies.yes j d t) (AskedSatisfies.condition_refused y k e) = absurd (not_read e d)
  satisfies_one (AskedSatisfies.yes j d t) (AskedSatisfies.not_cut k e m) = absurd (m t.is_cut)
  satisfies_one (AskedSatisfies.yes j d t) (AskedSatisfies.yes k e u) = refl
  satisfies_one (AskedSatisfies.yes j d t) (AskedSatisfies.no k e l u) = absurd (u t)
  satisfies_one (AskedSatisfies.no j d i t) (AskedSatisfies.run_refused y k) = absurd (not_both k j)
  satisfies_one (AskedSatisfies.no j d i t) (AskedSatisfies.condition_refused y k e) = absurd (not_read e d)
  satisfies_one (AskedSatisfies.no j d i t) (AskedSatisfies.not_cut k e m) = absurd (m i)
  satisfies_one (AskedSatisfies.no j d i t) (AskedSatisfies.yes k e u) = absurd (t u)
  satisfies_one (AskedSatisfies.no j d i t) (AskedSatisfies.no k e l u) = refl

-- lines made in a lent buffer, of an answer of any kind
pub made_one : {lines buffer b c : List ℕ} {r t : Option ℕ} → MadeOf lines buffer b r → MadeOf lines buffer c t → (r ≡ t) × (b ≡ c)
made_one (made h e) (made h' e') = (refl, e ∙ sym e')
made_one (made h e) (too_short h' e') = absurd (omega arith)
made_one (too_short h e) (made h' e') = absurd (omega arith)
made_one (too_short h e) (too_short h' e') = (refl, e ∙ sym e')

-- ---- the refusal of a number

-- from 1 on in their order
abbrev by_number : ℕ → Reason
by_number n =
    cond (eqb n 1) TooLong (cond (eqb n 2) CutShort (cond (eqb n 3) WrongLength (cond (eqb n 4) WrongKind (cond (eqb n 5) Limit (cond (eqb n 6) Format
    (cond (eqb n 7) Name (cond (eqb n 8) Field (cond (eqb n 9) Start (cond (eqb n 10) Side (cond (eqb n 11) Pairing (cond (eqb n 12) Circle
    (cond (eqb n 13) Clock (cond (eqb n 14) NotLinear (cond (eqb n 15) NoRoom (cond (eqb n 16) WrongCut NoChannel)))))))))))))))

numbered : (r : Reason) → (by_number (number r) ≡ r) × (1 ≤ number r) × (number r ≤ 17)
numbered TooLong = (refl, omega arith, omega arith)
numbered CutShort = (refl, omega arith, omega arith)
numbered WrongLength = (refl, omega arith, omega arith)
numbered WrongKind = (refl, omega arith, omega arith)
numbered Limit = (refl, omega arith, omega arith)
numbered Format = (refl, omega arith, omega arith)
numbered Name = (refl, omega arith, omega arith)
numbered Field = (refl, omega arith, omega arith)
numbered Start = (refl, omega arith, omega arith)
numbered Side = (refl, omega arith, omega arith)
numbered Pairing = (refl, omega arith, omega arith)
numbered Circle = (refl, omega arith, omega arith)
numbered Clock = (refl, omega arith, omega arith)
numbered NotLinear = (refl, omega arith, omega arith)
numbered NoRoom = (refl, omega arith, omega arith)
numbered WrongCut = (refl, omega arith, omega arith)
numbered NoChannel = (refl, omega arith, omega arith)

-- two reasons have two numbers
pub reason_one : (x y : Reason) → number x ≡ number y → x ≡ y
reason_one x y e = sym (numbered x).0 ∙ ap by_number e ∙ (numbered y).0

no_reason : {n : ℕ} (x : Reason) → n ≡ number x → (n ≡ 0) ⊎ (17 < n) → ⊥
no_reason x e (inl z) = omega (arith, e, z, (numbered x).1)
no_reason x e (inr l) = omega (arith, e, l, (numbered x).2)

-- `Reason::try_from`
pub named_one : (n : ℕ) (a b : Result Reason ℕ) → NamesReason n a → NamesReason n b → a ≡ b
named_one n (Ok x) (Ok y) p q = ap Ok (reason_one x y (sym p ∙ q))
named_one n (Ok x) (Err k) p q = absurd (no_reason x p q.1)
named_one n (Err m) (Ok y) p q = absurd (no_reason y q p.1)
named_one n (Err m) (Err k) p q = ap Err (p.0 ∙ sym q.0)
