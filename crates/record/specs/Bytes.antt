-- Little-endian numbers of a list of bytes; past its end a byte counts as 0.
use Rattle.std.specs.Prelude.{cond, List, ℕ, ◌+◌, ◌-◌, ◌*◌, ltb, ℤ, pos, negsuc, get_or}

unfoldable pub u16_at : List ℕ → ℕ → ℕ
u16_at s at = get_or s at 0 + 256 * get_or s (at + 1) 0

unfoldable pub u32_at : List ℕ → ℕ → ℕ
u32_at s at = u16_at s at + 65536 * u16_at s (at + 2)

-- the signed number that 32 bits are, two's complement
unfoldable pub signed : ℕ → ℤ
signed n = cond (ltb n 2147483648) (pos n) (negsuc (4294967295 - n))

abbrev pub i32_at : List ℕ → ℕ → ℤ
i32_at s at = signed (u32_at s at)
