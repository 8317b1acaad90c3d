-- How long lines are.
use mathlib.Core.Path.{◌≡◌, refl}
use mathlib.Core.Bool.{Bool, true, false, cond}
use mathlib.Core.List.{List, [], ◌∷◌, ◌++◌}
use Prim.Native.Nat.{ℕ, zero, suc, ◌+◌, ◌*◌, ◌/◌, ◌%◌, ◌^◌, ◌≤◌, ◌<◌}
use native.Mathlib.Nat.{pow-suc, div-lt_iff_lt-mul}
use native.Mathlib.Omega.{arith}
use borrow.Author.Tests.{ltb-false}
use lib.Dec.{ltb}
use lib.IntN.{ℤ, pos, negsuc}
use lib.ListN.{length, get_or, length-append}
use mir.Syntax.{w32}
use mir.Val.{SFits}
use Rattle.writing.specs.Text.{bytes, digits, decimal, signed, spaced, pair_line, row_lines}
use Rattle.writing.proofs.Rows.{lines_short, row_line_at, row-lines}

digits_short : (f k n : ℕ) → n < 10 ^ suc k → length (digits f n) ≤ suc k
unfolding digits
digits_short zero k n h = omega arith
digits_short (suc f) k n h = go k h (λ j. digits_short f j (n / 10)) (ltb n 10) refl
  where
    go : (k : ℕ) → n < 10 ^ suc k → ((j : ℕ) → n / 10 < 10 ^ suc j → length (digits f (n / 10)) ≤ suc j) → (b : Bool) → ltb n 10 ≡ b
        → length (cond b ((48 + n) ∷ []) (digits f (n / 10) ++ ((48 + n % 10) ∷ []))) ≤ suc k
    go k h rest true e = omega arith
    go zero h rest false e = absurd (omega (arith, ltb-false n 10 e, pow-suc 10 0))
    go (suc j) h rest false e =
        let less : n / 10 < 10 ^ suc j = (div-lt_iff_lt-mul {k = 10} {x = n} {y = 10 ^ suc j} (omega arith)).1 (omega (arith, pow-suc 10 (suc j))) in
        omega (arith, rest j less, length-append (digits f (n / 10)) ((48 + n % 10) ∷ []))

pub decimal_short : (k n : ℕ) → n < 10 ^ suc k → length (decimal n) ≤ suc k
unfolding decimal
decimal_short k n h = digits_short (suc n) k n h

pub pair_line_long : (w : List ℕ) (a b : ℕ) → length (pair_line w a b) ≡ length w + length (decimal a) + length (decimal b) + 3
unfolding pair_line spaced bytes
pair_line_long w a b = simp length-append (omega arith)

-- 32 bits hold at most ten digits and a sign
pub signed_short : (x : ℤ) → SFits w32 x → length (signed x) ≤ 11
unfolding signed bytes
signed_short (pos n) fits = omega (arith, decimal_short 9 n (omega (arith, fits.sfits)))
signed_short (negsuc n) fits = omega (arith, decimal_short 9 (suc n) (omega (arith, fits.sfits)))

-- the numbers of the lines have at most d + 1 digits, those of the row at most five
pub row_lines_short : (w : List ℕ) (d : ℕ) (row : List ℕ) → length row ≤ 10 ^ suc d → ((k : ℕ) → get_or row k 0 < 65536)
    → length (row_lines w 0 row) ≤ length row * (length w + d + 9)
row_lines_short w d row h small = rw (row-lines w row) at (lines_short (row_line_at w row) (length w + d + 9) (length row) each)
  where
    each : (j : ℕ) → j < length row → length (row_line_at w row j) ≤ length w + d + 9
    each j g =
        let first = decimal_short d j (omega arith) in
        let second = decimal_short 4 (get_or row j 0) (omega (arith, small j)) in
        omega (arith, pair_line_long w j (get_or row j 0))
