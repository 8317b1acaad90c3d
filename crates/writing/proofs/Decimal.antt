-- The digits that `io::decimal` makes are those of the definition.
use mathlib.Core.Path.{◌≡◌, refl, subst}
use Prim.Native.Nat.{ℕ, zero, suc, ◌+◌, ◌-◌, ◌/◌, ◌%◌, ◌^◌, ◌≤◌, ◌<◌}
use native.Mathlib.Nat.{pow-suc, one-le-pow, div-lt_iff_lt-mul, le-div_iff_mul-le, div-lt_self, mod-lt, mod-eq_of_lt}
use native.Mathlib.Omega.{arith}
use borrow.Author.Tests.{lt-ltb, le-ltb}
use Rattle.io.specs.Digits as I
use Rattle.io.specs.Digits.{hex_digit_ascii, IsDigitCount}
use Rattle.writing.specs.Text.{digits, decimal}

glyph_digit : (d : ℕ) → d < 10 → hex_digit_ascii d ≡ 48 + d
glyph_digit d h = rw (lt-ltb d 10 h) refl

ten_power : (j n : ℕ) → 10 ^ suc j ≤ n → 10 ≤ n
ten_power j n h = omega (arith, pow-suc 10 j, one-le-pow j 10 (omega arith))

fewer : (j n : ℕ) → IsDigitCount 10 1 n (suc (suc j)) → IsDigitCount 10 1 (n / 10) (suc j)
fewer j n (_, below, enough) =
    let e : suc (suc j) - 1 ≡ suc j = omega arith in
    let up : 10 ^ suc j ≤ n = subst (λ (k : ℕ). 10 ^ k ≤ n) e (enough (omega arith)) in (
      omega arith,
      (div-lt_iff_lt-mul {k = 10} {x = n} {y = 10 ^ suc j} (omega arith)).1 (omega (arith, pow-suc 10 (suc j))),
      λ h. let d : suc j - 1 ≡ j = omega arith in
          rw d ((le-div_iff_mul-le {k = 10} {x = 10 ^ j} {y = n} (omega arith)).1 (omega (arith, pow-suc 10 j))),
    )

digits_made : (k f n : ℕ) → IsDigitCount 10 1 n k → n < f → I.last_digits 10 k n ≡ digits f n
unfolding digits
digits_made zero f n (a, _, _) h = absurd (omega arith)
digits_made (suc zero) zero n w h = absurd (omega arith)
digits_made (suc zero) (suc f) n (_, below, _) h =
    let small : n < 10 = omega (arith, pow-suc 10 0) in
    rw (lt-ltb n 10 small, mod-eq_of_lt small, glyph_digit n small) refl
digits_made (suc (suc j)) zero n w h = absurd (omega arith)
digits_made (suc (suc j)) (suc f) n w h =
    let e : suc (suc j) - 1 ≡ suc j = omega arith in
    let large : 10 ≤ n = ten_power j n (subst (λ (k : ℕ). 10 ^ k ≤ n) e (w.2 (omega arith))) in
    let less : n / 10 < f = omega (arith, div-lt_self {n = n} {k = 10} (omega arith) (omega arith)) in
    rw (le-ltb n 10 large, glyph_digit (n % 10) (mod-lt n (omega arith)), digits_made (suc j) f (n / 10) (fewer j n w) less) refl

pub decimal_made : {k n : ℕ} → IsDigitCount 10 1 n k → I.last_digits 10 k n ≡ decimal n
unfolding decimal
decimal_made {k} {n} w = digits_made k (suc n) n w (omega arith)
