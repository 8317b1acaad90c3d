-- The paper's refusals by name and number, and how tests stand in a row.
use Rattle.std.specs.Prelude.{Bool, false, cond, ℕ, Result, Ok, Err, ⊤}
use Rattle.record.specs.declared.File.{File}
use Rattle.record.specs.declared.Refusal.{Refusal}
use Rattle.record.specs.declared.reasons.Reason.{Reason}
use Rattle.record.specs.declared.reasons.Reason.TheVariants.{TooLong, CutShort, WrongLength, WrongKind, Limit, Format, Name, Field, Start, Side, Pairing}
use Rattle.record.specs.declared.reasons.Reason.TheVariants.{Circle, Clock, NotLinear, NoRoom, WrongCut, NoChannel}

-- 18 isn't used again: older handbooks list it, and no file could give it
abbrev pub number : Reason → ℕ
number TooLong = 1
number CutShort = 2
number WrongLength = 3
number WrongKind = 4
number Limit = 5
number Format = 6
number Name = 7
number Field = 8
number Start = 9
number Side = 10
number Pairing = 11
number Circle = 12
number Clock = 13
number NotLinear = 14
number NoRoom = 15
number WrongCut = 16
number NoChannel = 17

-- what tests say of a record: nothing, or why it is refused
abbrev pub Check : Type 0
Check = Result ⊤ Reason

abbrev pub passed : Check
passed = Ok tt

unfoldable pub refuse_if : Bool → Reason → Check
refuse_if test r = cond test (Err r) passed

-- the refusal so far, else what the tests behind it say
infixr 20 ◌then◌
abbrev pub ◌then◌ : Check → Check → Check
Ok u then next = next
Err r then next = Err r

-- a refusal of a record that doesn't stand after the end
abbrev pub refusal : File → Reason → ℕ → Refusal
refusal f r p = record { file = f; reason = r; place = p; after = false }

-- a record at this place, refused where a test says so
abbrev pub at_fault : File → ℕ → Check → Result ⊤ Refusal
at_fault f p (Ok u) = Ok u
at_fault f p (Err r) = Err (refusal f r p)

-- what comes of a value; a refusal stays
abbrev pub and_then : {A B E : Type 0} → Result A E → (A → Result B E) → Result B E
and_then (Ok x) g = g x
and_then (Err e) g = Err e
