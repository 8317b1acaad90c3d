-- `row_lines` meets its contract. The invariant of its loop: the lines of the first i numbers are put.
use Rattle.writing.specs.Stored.{Put}
use Rattle.writing.proofs.Rows.{lines_to, row_line_at}
use Rattle.writing.proofs.Lines.row_lines.Given as goal

abbrev pub invariant-loop-i : goal.invariant-loop-i
invariant-loop-i l = Put (lines_to (row_line_at l.word l.row) l.i) l.initial.self l.self
