-- What a caller takes from the judging of a run: its refusal, or that it is accepted with its head and its index.
use Rattle.std.proofs.Common.{Result, Ok, Err}
use mathlib.Core.Path.{◌≡◌, sym, subst}
use mathlib.Core.List.{List}
use Prim.Native.Nat.{ℕ}
use Rattle.model.proofs.Numbers.{never}
use Rattle.record.specs.Record.{head_of}
use Rattle.record.specs.declared.Head.{Head}
use Rattle.record.specs.declared.Refusal.{Refusal}
use Rattle.judged.specs.Judged.{Judged}
use Rattle.judged.specs.Judged.Judged.{by_pass, by_pairing, by_circle, by_clock, wholly}
use Rattle.judged.specs.Told.{Told}
use Rattle.judged.specs.Inner.{Ready}

module _ (s : List ℕ) where
  pub judged_refused : {r : Result Head Refusal} (x : Refusal) → Judged s r → r ≡ Err x → Judged s (Err x)
  judged_refused x j e = subst (Judged s) e j

  head_is : {r : Result Head Refusal} (h : Head) → Judged s r → r ≡ Ok h → h ≡ head_of s
  head_is h (by_pass x d) e = never (cc)
  head_is h (by_pairing x d w) e = never (cc)
  head_is h (by_circle x d n w) e = never (cc)
  head_is h (by_clock x d n m w) e = never (cc)
  head_is h (wholly d n m o) e = let same : head_of s ≡ h = cc in sym same

  pub judged_accepted : {ix : List ℕ} {r : Result Head Refusal} (h : Head) → Judged s r × Ready s ix r → r ≡ Ok h → Told s ix h
  judged_accepted {ix} h (j, w) e =
      let same = head_is h j e in
      record { index = subst (Ready s ix) e w; accepted = subst (λ h. Judged s (Ok h)) same (subst (Judged s) e j); head = same }
