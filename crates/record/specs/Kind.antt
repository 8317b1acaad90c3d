-- The paper's numbers of the kinds of a run's records.
use Rattle.std.specs.Prelude.{◌≡◌, ◌≢◌, ℕ, Result, MatchResult}
use Rattle.record.specs.declared.kind.Kind.{Kind}
use Rattle.record.specs.declared.kind.Kind.TheVariants.{Head, Channel, State, End}
use Rattle.record.specs.declared.reasons.Reason.{Reason}
use Rattle.record.specs.declared.reasons.Reason.TheVariants.{WrongKind}

abbrev pub kind_number : Kind → ℕ
kind_number Head = 1
kind_number Channel = 2
kind_number State = 3
kind_number End = 4

-- the kind with this number, or that no kind has it
abbrev pub NamesKind : ℕ → Result Kind Reason → Type 0
NamesKind n r = MatchResult r (λ k. n ≡ kind_number k) (λ why. (why ≡ WrongKind) × (n ≢ 1) × (n ≢ 2) × (n ≢ 3) × (n ≢ 4))
