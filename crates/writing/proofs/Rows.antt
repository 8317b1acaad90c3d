-- Lines one after the other: the first k of them, which are the lines of a row.
use mathlib.Core.Path.{◌≡◌, refl, sym, ap, ◌∙◌}
use mathlib.Core.List.{List, [], ◌∷◌, ◌++◌, append_assoc, append-nil}
use Prim.Native.Nat.{ℕ, zero, suc, ◌+◌, ◌*◌, ◌≤◌, ◌<◌}
use native.Mathlib.Nat.{zero-add, add-zero, suc-add, add-suc}
use native.Mathlib.Omega.{arith}
use lib.ListN.{length, get_or, length-append}
use Rattle.writing.specs.Text.{pair_line, row_lines}

abbrev pub lines_to : (ℕ → List ℕ) → ℕ → List ℕ
lines_to line zero = []
lines_to line (suc k) = lines_to line k ++ line k

pub lines_first : (line : ℕ → List ℕ) (k : ℕ) → lines_to line (suc k) ≡ line 0 ++ lines_to (λ j. line (suc j)) k
lines_first line zero = sym (append-nil (line 0))
lines_first line (suc k) = ap (λ l. l ++ line (suc k)) (lines_first line k) ∙ append_assoc (line 0) (lines_to (λ j. line (suc j)) k) (line (suc k))

pub lines_short : (line : ℕ → List ℕ) (m k : ℕ) → ((j : ℕ) → j < k → length (line j) ≤ m) → length (lines_to line k) ≤ k * m
lines_short line m zero short = omega arith
lines_short line m (suc k) short =
    let rest = lines_short line m k (λ j h. short j (omega arith)) in
    omega (arith, length-append (lines_to line k) (line k), short k (omega arith))

-- lines that are those of a row, the first of which has the number i
rows_from : (word : List ℕ) (i : ℕ) (row : List ℕ) (line : ℕ → List ℕ) → ((j : ℕ) → line j ≡ pair_line word (i + j) (get_or row j 0))
    → lines_to line (length row) ≡ row_lines word i row
unfolding row_lines
rows_from word i [] line same = refl
rows_from word i (n ∷ row) line same =
    let first : line 0 ≡ pair_line word i n = rw add-zero at (same 0) in
    let rest = rows_from word (suc i) row (λ j. line (suc j)) (λ j. rw suc-add (rw add-suc at (same (suc j)))) in
    lines_first line (length row) ∙ rw (first, rest) refl

module _ (word row : List ℕ) where
  abbrev pub row_line_at : ℕ → List ℕ
  row_line_at j = pair_line word j (get_or row j 0)

  pub row-lines : lines_to row_line_at (length row) ≡ row_lines word 0 row
  row-lines = rows_from word 0 row row_line_at (λ j. rw zero-add refl)
