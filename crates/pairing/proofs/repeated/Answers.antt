-- `repeated` meets its contract: a number at or above its channel's mark is new, and any other is looked for.
use native.Mathlib.Omega.{arith}
use Rattle.judged.proofs.Pairs.{mark_inside, repeats_raised, repeats_found}
use Rattle.run.proofs.Listed.{process_of}
use Rattle.pairing.proofs.repeated.Goals as goal

pub offset_bounds-marks-i : goal.offset_bounds-marks-i
offset_bounds-marks-i c = let inside = mark_inside c.requires.2 in omega arith

pub bounds-marks-i : goal.bounds-marks-i
bounds-marks-i c = let inside = mark_inside c.requires.2 in omega arith

pub offset_bounds-marks-i-then-marks-i : goal.offset_bounds-marks-i-then-marks-i
offset_bounds-marks-i-then-marks-i c = let inside = mark_inside c.requires.2 in omega arith

pub bounds-marks-i-then-marks-i : goal.bounds-marks-i-then-marks-i
bounds-marks-i-then-marks-i c = let inside = mark_inside c.requires.2 in omega arith

pub returns-then-marks-i : goal.returns-then-marks-i
returns-then-marks-i c =
    let e = c.mark_at-i.ensures in
    rw e (repeats_raised _ _ _ _ _ _ c.requires.2 (rw e at c.if-marks-i.true))

pub find-requires : goal.find-requires
find-requires c =
    let r = c.requires in
    record { listed = r.0; process = process_of _ r.0.read r.1; first = omega arith; last = omega (arith, r.1.there) }

pub returns-else-marks-i : goal.returns-else-marks-i
returns-else-marks-i c = rw c.is_some.ensures (repeats_found _ _ _ _ _ _ _ (rw c.mark_at-i.ensures at c.if-marks-i.false) c.find.ensures)
