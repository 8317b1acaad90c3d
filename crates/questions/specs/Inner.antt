-- Words of the contracts of the inner functions; the promises don't use them.
use Rattle.std.specs.Prelude.{◌≡◌, List, ℕ}
use Rattle.model.specs.Cut.{IsCut}
use Rattle.record.specs.Refusal.{refusal}
use Rattle.record.specs.declared.reasons.Reason.TheVariants.{WrongCut}
use Rattle.record.specs.declared.File.TheVariants.{Run}
use Rattle.record.specs.declared.Refusal.{Refusal}
use Rattle.run.specs.Said.{run_in}

-- numbers aren't a cut of the run that was judged, and 16 is given
abbrev pub NotGiven : List ℕ → List ℕ → Refusal → Type 0
NotGiven s cut x = (x ≡ refusal Run WrongCut 0) × ¬ IsCut (run_in s) cut
