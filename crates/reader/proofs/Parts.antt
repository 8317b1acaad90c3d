-- The part shown lies within its file.
use mathlib.Core.Path.{◌≡◌, refl}
use mathlib.Core.Bool.{Bool, true, false, cond, ◌||◌}
use mathlib.Core.List.{List}
use Prim.Native.Nat.{ℕ, ◌+◌, ◌-◌, ◌≤◌, min}
use native.Mathlib.Omega.{arith}
use lib.Dec.{ltb}
use denote.Ref.{Bor}
use lib.ListN.{length}
use Rattle.record.specs.Record.{length_at}
use Rattle.record.specs.declared.File.{File}
use Rattle.record.specs.declared.File.TheVariants.{Run, Condition}
use Rattle.record.specs.declared.Refusal.{Refusal}
use Rattle.reader.specs.declared.Part.{Part}
use Rattle.reader.specs.Shown.{file_of, has_record, shown_count, part_of}

-- no more is shown than is left
pub shown_within : (s : List ℕ) (at : ℕ) (after : Bool) → shown_count s at after ≤ length s - at
unfolding shown_count
shown_within s at after = go (after || ltb (length s - at) 2)
  where
    go : (t : Bool) → cond t (length s - at) (min (length s - at) (length_at s at)) ≤ length s - at
    go true = omega arith
    go false = omega arith

-- the bytes of the file at fault are those behind its slice
pub behind : (f : File) (run condition : Bor (List ℕ)) → (file_of f run condition).now ≡ file_of f run.now condition.now
behind Run run condition = refl
behind Condition run condition = refl

module _ (run condition : Bor (List ℕ)) {p q : Part} {b : Bor (List ℕ)} (e : p ≡ q) (f : b ≡ file_of p.file run condition) where
  -- the part that is shown ends within its file
  pub part_within : (x : Refusal) → q ≡ part_of run.now condition.now x → p.place + p.count ≤ length b.now
  part_within x h = rw (f, behind p.file run condition, e, h) (go (has_record x.reason) refl)
    where
      go : (t : Bool) → has_record x.reason ≡ t →
          let w = part_of run.now condition.now x in w.place + w.count ≤ length (file_of w.file run.now condition.now)
      go true h = rw (h) (omega (arith, shown_within (file_of x.file run.now condition.now) x.place x.after))
      go false h = rw (h) (omega arith)
