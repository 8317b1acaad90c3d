-- Words and numbers as bytes, and lines of them.
use Rattle.std.specs.Prelude.{cond, List, [], ◌∷◌, ◌++◌, ℕ, zero, suc, ◌+◌, ◌/◌, ◌%◌, ltb, ℤ, pos, negsuc}
use Prim.Native.Char.{code}
use Prim.Native.String as S
use Prim.Native.String.{String}

unfoldable pub bytes : String → List ℕ
bytes S.[] = []
bytes (S.◌∷◌ c s) = code c ∷ bytes s

-- the digits of n, at most f of them: the last is n % 10, and the others are those of n / 10
unfoldable pub digits : ℕ → ℕ → List ℕ
digits zero n = []
digits (suc f) n = cond (ltb n 10) ((48 + n) ∷ []) (digits f (n / 10) ++ ((48 + n % 10) ∷ []))

-- a number with no zero ahead: n + 1 digits are enough for n
unfoldable pub decimal : ℕ → List ℕ
decimal n = digits (suc n) n

-- negsuc n is one below -n
unfoldable pub signed : ℤ → List ℕ
signed (pos n) = decimal n
signed (negsuc n) = bytes "-" ++ decimal (suc n)

unfoldable pub spaced : ℕ → List ℕ
spaced n = bytes " " ++ decimal n

unfoldable pub pair_line : List ℕ → ℕ → ℕ → List ℕ
pair_line word a b = word ++ spaced a ++ spaced b ++ bytes "\n"

-- a line for each number of a row, the first of which has the number i
unfoldable pub row_lines : List ℕ → ℕ → List ℕ → List ℕ
row_lines word i [] = []
row_lines word i (n ∷ row) = pair_line word i n ++ row_lines word (suc i) row
