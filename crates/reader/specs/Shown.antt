-- The bytes shown for a refusal: a part of the file at fault.
use Rattle.std.specs.Prelude.{◌≡◌, Bool, cond, ◌||◌, ◌&&◌, not, List, ℕ, ◌+◌, ◌-◌, min, ltb, eqb, length, take, drop}
use Rattle.std.specs.Borrow.{Bor}
use Rattle.record.specs.declared.File.{File}
use Rattle.record.specs.declared.File.TheVariants.{Run, Condition}
use Rattle.record.specs.declared.Refusal.{Refusal}
use Rattle.record.specs.Record.{length_at}
use Rattle.record.specs.Refusal.{number}
use Rattle.record.specs.declared.reasons.Reason.{Reason}
use Rattle.reader.specs.declared.Part.{Part}

abbrev pub file_of : {A : Type 0} → File → A → A → A
file_of Run run condition = run
file_of Condition run condition = condition

-- all to the end of the file for a record after the end, or where the two bytes of a length aren't left; else the stated length, cut at the end of
-- the file
unfoldable pub shown_count : List ℕ → ℕ → Bool → ℕ
shown_count s at after = cond (after || ltb (length s - at) 2) (length s - at) (min (length s - at) (length_at s at))

-- from its place on, which for a place past the end is the end
abbrev pub record_part : File → List ℕ → Refusal → Part
record_part f s r = record { file = f; place = length s - (length s - r.place); count = shown_count s r.place r.after }

-- the run's empty front part
abbrev pub front : Part
front = record { file = Run; place = 0; count = 0 }

-- 1 and everything from 15 on is of no record
abbrev pub has_record : Reason → Bool
has_record r = not (eqb (number r) 1) && ltb (number r) 15

abbrev pub part_of : List ℕ → List ℕ → Refusal → Part
part_of run condition r =
    cond (has_record r.reason) (record_part r.file (file_of r.file run condition) r) front

-- the slice is that part of one of two lent ones: it begins at its place there, and has its bytes
pub record IsPart (run condition : Bor (List ℕ)) (p : Part) (r : Bor (List ℕ)) : Type 0 where
  pub begins : r.ref_ptr ≡ ((file_of p.file run condition).ref_ptr.0, p.place + (file_of p.file run condition).ref_ptr.1)
  pub bytes : r.now ≡ take p.count (drop p.place (file_of p.file run condition).now)
