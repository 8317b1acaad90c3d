-- The refusal of a number, and what a file is called on a line.
use Rattle.std.specs.Prelude.{◌≡◌, ◌⊎◌, ◌<◌, List, [], ◌∷◌, ℕ, Result, MatchResult}
use Rattle.record.specs.declared.File.{File}
use Rattle.record.specs.declared.File.TheVariants.{Run, Condition}
use Rattle.record.specs.declared.reasons.Reason.{Reason}
use Rattle.record.specs.Refusal.{number}

-- the reason with this number, or the number again, which no reason has
abbrev pub NamesReason : ℕ → Result Reason ℕ → Type 0
NamesReason n r = MatchResult r (λ why. n ≡ number why) (λ m. (m ≡ n) × ((n ≡ 0) ⊎ (17 < n)))

-- `run` and `cond`, as bytes
abbrev pub file_word : File → List ℕ
file_word Run = 114 ∷ 117 ∷ 110 ∷ []
file_word Condition = 99 ∷ 111 ∷ 110 ∷ 100 ∷ []
