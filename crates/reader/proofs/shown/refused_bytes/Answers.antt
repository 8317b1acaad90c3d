-- What `refused_bytes` cuts out lies within its file.
use native.Mathlib.Omega.{arith}
use mathlib.Core.Path.{refl}
use Rattle.reader.proofs.Parts.{part_within}
use Rattle.reader.proofs.shown.refused_bytes.Goals as goal

pub overflow_add-to : goal.overflow_add-to
overflow_add-to c =
    let a = c.args in
    omega (arith, part_within a.run a.cond c.refused_part-part.ensures c.bytes_of-bytes.ensures a.refusal refl, c.bytes_of-bytes.type_inv.0)

pub slice_bounds-result-end : goal.slice_bounds-result-end
slice_bounds-result-end c =
    let a = c.args in
    part_within a.run a.cond c.refused_part-part.ensures c.bytes_of-bytes.ensures a.refusal refl
