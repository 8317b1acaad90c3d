-- What the tests and the scan tell of a given cut, as the answers to the questions about it.
use mathlib.Core.Path.{◌≡◌, refl}
use mathlib.Core.Logic.{◌↔◌}
use mathlib.Core.Bool.{Bool, true, false}
use mathlib.Core.List.{List}
use Prim.Native.Nat.{ℕ, ◌<◌}
use Rattle.std.specs.Prelude.{Option, Ok}
use Rattle.model.specs.Cut.{IsCut, Consistent, in_transit}
use Rattle.model.specs.Clause.{Satisfies}
use Rattle.model.proofs.Numbers.{never}
use Rattle.record.specs.Record.{head_of}
use Rattle.run.specs.Said.{run_in}
use Rattle.judged.specs.Accepted.{RunAccepted}
use Rattle.condition.specs.Read.{clauses_in}
use Rattle.condition.specs.Accepted.{ConditionAccepted}
use Rattle.transit.specs.declared.Load.{Load}
use Rattle.transit.specs.Load.{LoadOf}
use Rattle.transit.specs.Load.LoadOf.{empty, messages}
use Rattle.questions.specs.Questions.{AskedConsistent, AskedMessages, AskedSatisfies}

module _ {s cut : List ℕ} (j : RunAccepted s) (i : IsCut (run_in s) cut) where
  pub consistent_answers : {t : Bool} → (t ≡ true) ↔ Consistent (run_in s) cut → AskedConsistent s cut (Ok t)
  consistent_answers {t = true} d = AskedConsistent.yes j i (d.0 refl)
  consistent_answers {t = false} d = AskedConsistent.no j i (λ k. let e = d.1 k in never (cc))

  pub satisfies_answers : {c : List ℕ} {t : Bool} → ConditionAccepted s c → (t ≡ true) ↔ Satisfies (run_in s) (clauses_in c (head_of s)) cut → AskedSatisfies s c cut (Ok t)
  satisfies_answers {t = true} k d = AskedSatisfies.yes j k (d.0 refl)
  satisfies_answers {t = false} k d = AskedSatisfies.no j k i (λ w. let e = d.1 w in never (cc))

  pub load_answers : {channel : ℕ} {load : Option Load} → channel < (head_of s).channels → LoadOf (in_transit (run_in s) cut channel) load
      → AskedMessages s cut channel (Ok load)
  load_answers h (empty e) = AskedMessages.empty j i h e
  load_answers h (messages {load = l} n w) = rw n (AskedMessages.messages j i h l.lowest w)
