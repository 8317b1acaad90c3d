-- What stands in a run at a place: the record with the place after it, or else the refusal 2, 3, 2, 4, 3, 6.
use Rattle.std.specs.Prelude.{Bool, not, cond, ◌&&◌, ◌||◌, List, ℕ, ◌+◌, ◌-◌, ltb, eqb, length, Result, Ok}
use Rattle.record.specs.declared.File.TheVariants.{Run}
use Rattle.record.specs.declared.Head.{Head}
use Rattle.record.specs.declared.ChannelFields.{ChannelFields}
use Rattle.record.specs.declared.StateFields.{StateFields}
use Rattle.record.specs.declared.Record.{Record}
use Rattle.record.specs.declared.Record.TheVariants as R
use Rattle.record.specs.declared.Refusal.{Refusal}
use Rattle.record.specs.declared.reasons.Reason.TheVariants.{CutShort, WrongLength, WrongKind, Format}
use Rattle.record.specs.Bytes.{u16_at, u32_at}
use Rattle.record.specs.Layout.{head_length, channel_length, channel_place, state_length}
use Rattle.record.specs.Refusal.{Check, refuse_if, ◌then◌, at_fault, and_then}

-- a record begins with its length and its kind
abbrev pub length_at : List ℕ → ℕ → ℕ
length_at s at = u16_at s at

abbrev pub kind_at : List ℕ → ℕ → ℕ
kind_at s at = u16_at s (at + 2)

-- the length of a kind of a run; 0 for any other kind
unfoldable pub length_of : ℕ → Head → ℕ
length_of kind h = cond (eqb kind 1) head_length (cond (eqb kind 2) channel_length (cond (eqb kind 3) (state_length h) (cond (eqb kind 4) 4 0)))

-- no length, a length under 4, a body cut short
unfoldable pub check_frame : List ℕ → ℕ → Check
check_frame s at =
    refuse_if (ltb (length s - at) 2) CutShort
    then refuse_if (ltb (length_at s at) 4) WrongLength
    then refuse_if (ltb (length s - at) (length_at s at)) CutShort

-- what the head says, which stands first in a run; zeros where it isn't there
unfoldable pub head_of : List ℕ → Head
head_of s = cond (ltb (length s) head_length) (record { processes = 0; channels = 0 }) (record { processes = u16_at s 6; channels = u16_at s 8 })

-- the kind may stand at the place: the head, then the channels, then states and the end
unfoldable pub due : Head → ℕ → ℕ → Bool
due h at kind = cond (eqb at 0) (eqb kind 1) (cond (ltb at (channel_place h.channels)) (eqb kind 2) (eqb kind 3 || eqb kind 4))

unfoldable pub check_opening : List ℕ → ℕ → Check
check_opening s at =
    check_frame s at
    then refuse_if (not (due (head_of s) at (kind_at s at))) WrongKind
    then refuse_if (not (eqb (length_at s at) (length_of (kind_at s at) (head_of s)))) WrongLength

unfoldable pub check_step : List ℕ → ℕ → Check
check_step s at =
    check_opening s at
    then refuse_if (eqb (kind_at s at) 1 && not (eqb (u16_at s (at + 4)) 1)) Format

unfoldable pub channel_fields_at : List ℕ → ℕ → ChannelFields
channel_fields_at s at = record { number = u16_at s (at + 4); from = u16_at s (at + 6); to = u16_at s (at + 8) }

unfoldable pub state_fields_at : List ℕ → ℕ → StateFields
state_fields_at s at =
    record { process = u16_at s (at + 4); event = u16_at s (at + 6); channel = u16_at s (at + 8); message = u32_at s (at + 10); stamp = u32_at s (at + 14) }

unfoldable pub record_at : List ℕ → ℕ → Record
record_at s at =
    cond (eqb (kind_at s at) 1) (R.Head (head_of s))
    (cond (eqb (kind_at s at) 2) (R.Channel (channel_fields_at s at))
    (cond (eqb (kind_at s at) 3) (R.State (state_fields_at s at))
    R.End))

unfoldable pub step_at : List ℕ → ℕ → Result (Record × ℕ) Refusal
step_at s at = and_then (at_fault Run at (check_step s at)) (λ u. Ok (record_at s at, at + length_at s at))
