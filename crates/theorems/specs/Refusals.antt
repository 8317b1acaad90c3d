-- Which numbers the refusals of a run have, which those of a condition, of which files 1 is said, and what a call can give.
use Rattle.std.specs.Prelude.{◌≡◌, ◌⊎◌, ◌<◌, ℕ, length}
use mathlib.Core.List.{List, [], ◌∷◌, Memᴰ}
use Rattle.record.specs.declared.File.{File}
use Rattle.record.specs.declared.File.TheVariants.{Run, Condition}
use Rattle.record.specs.declared.Refusal.{Refusal}
use Rattle.record.specs.Refusal.{number, refusal}
use Rattle.record.specs.declared.reasons.Reason.TheVariants.{TooLong}

-- a refusal that says this file and has one of these numbers
pub record RefusalOf (f : File) (numbers : List ℕ) (x : Refusal) : Type 0 where
  pub number : Memᴰ (number x.reason) numbers
  pub file : x.file ≡ f

-- a file that is too long is refused as such, at its front
abbrev pub Over : File → List ℕ → Refusal → Type 0
Over f s x = (65535 < length s) × (x ≡ refusal f TooLong 0)

abbrev pub run_numbers : List ℕ
run_numbers = 1 ∷ 2 ∷ 3 ∷ 4 ∷ 5 ∷ 6 ∷ 7 ∷ 8 ∷ 9 ∷ 10 ∷ 11 ∷ 12 ∷ 13 ∷ []

abbrev pub condition_numbers : List ℕ
condition_numbers = 1 ∷ 2 ∷ 3 ∷ 4 ∷ 5 ∷ 7 ∷ 8 ∷ 14 ∷ []

-- of the run with one of the first numbers, or of the condition with one of the others
abbrev pub Gives : List ℕ → List ℕ → Refusal → Type 0
Gives of_run of_condition x = RefusalOf Run of_run x ⊎ RefusalOf Condition of_condition x
