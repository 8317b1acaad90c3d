-- A pass over a file's records in turn, beside what is known of those ahead: the first refusal, or the places of the records that it keeps.
use Rattle.std.specs.Prelude.{Bool, true, cond, List, [], ℕ, zero, suc, ltb, length, Result, Ok, Err, ⊤}
use Rattle.record.specs.declared.File.{File}
use Rattle.record.specs.declared.Refusal.{Refusal}
use Rattle.record.specs.declared.reasons.Reason.TheVariants.{TooLong, WrongKind}
use Rattle.record.specs.Refusal.{Check, refuse_if, refusal, at_fault, and_then}

-- what a pass gives: the places in file order, or the first refusal
abbrev pub Read : Type 0
Read = Result (List ℕ) Refusal

-- no places of a file that is refused
abbrev pub places_in : Read → List ℕ
places_in (Err x) = []
places_in (Ok qs) = qs

-- how the records of a file are taken: a step gives a record with the place after it, or a refusal; the judge checks the record; behind it more is known
pub record Pass (Item Known : Type 0) : Type 0 where
  pub file : File
  pub bytes : List ℕ
  pub start : Known
  pub step : ℕ → Known → Result (Item × ℕ) Refusal
  pub judge : ℕ → Known → Item → Check
  pub is_end : Item → Bool
  pub more : Item → ℕ → Known → Known
  pub places : Known → List ℕ

-- a file has at most 65,535 bytes
unfoldable pub check_length : File → List ℕ → Result ⊤ Refusal
check_length f s = at_fault f 0 (refuse_if (ltb 65535 (length s)) TooLong)

-- nothing follows an end
unfoldable pub check_end : File → List ℕ → ℕ → Result ⊤ Refusal
check_end f s next = cond (ltb next (length s)) (Err (record { file = f; reason = WrongKind; place = next; after = true })) (Ok tt)

module _ {Item Known : Type 0} (p : Pass Item Known) where
  -- from a place on; the first number bounds the records left
  unfoldable pub read_from : ℕ → ℕ → Known → Read
  read_from zero at k = Err (refusal p.file TooLong at)
  read_from (suc f) at k =
      and_then (p.step at k) (λ (r, next).
      and_then (at_fault p.file at (p.judge at k r)) (λ u.
      cond (p.is_end r) (and_then (check_end p.file p.bytes next) (λ u. Ok (p.places k))) (read_from f next (p.more r at k))))

  -- the whole file
  unfoldable pub read_file : Read
  read_file = and_then (check_length p.file p.bytes) (λ u. read_from (suc (length p.bytes)) 0 p.start)
