-- `row_lines` meets its contract: a line is put after those of the numbers ahead of it.
use Rattle.std.proofs.Common.{◌≡◌, length, arith}
use Rattle.writing.proofs.Rows.{row_line_at, row-lines}
use Rattle.writing.proofs.Putting.{lines_next, lines_all}
use Rattle.writing.proofs.Lines.row_lines.Goals as goal

pub loop-i-preserved : goal.loop-i-preserved
loop-i-preserved c =
    let a = c.args in
    lines_next (row_line_at a.word.now a.row.now) c.loop-i.invariant (rw c.from.ensures at c.pair_line.ensures)

pub returns : goal.returns
returns c =
    let a = c.args in
    let all : c.loop-i.i ≡ length a.row.now = omega arith in
    lines_all (row_line_at a.word.now a.row.now) c.loop-i.invariant all (row-lines a.word.now a.row.now)
