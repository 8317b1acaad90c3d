-- The paper's numbers of the kinds of a condition's records.
use Rattle.std.specs.Prelude.{◌≡◌, ◌≢◌, ℕ, Result, MatchResult}
use Rattle.condition.specs.declared.kind.Kind.{Kind}
use Rattle.condition.specs.declared.kind.Kind.TheVariants.{Head, Local, Channel, End}
use Rattle.record.specs.declared.reasons.Reason.{Reason}
use Rattle.record.specs.declared.reasons.Reason.TheVariants.{WrongKind}

abbrev pub kind_number : Kind → ℕ
kind_number End = 4
kind_number Head = 16
kind_number Local = 17
kind_number Channel = 18

-- the kind with this number, or that no kind has it
abbrev pub NamesKind : ℕ → Result Kind Reason → Type 0
NamesKind n r = MatchResult r (λ k. n ≡ kind_number k) (λ why. (why ≡ WrongKind) × (n ≢ 4) × (n ≢ 16) × (n ≢ 17) × (n ≢ 18))
