-- Lines can be read back: a number ends at the first byte that is no digit, and the lines of a row end where no line with their word follows.
use mathlib.Core.Path.{◌≡◌, refl, sym, ap, ◌∙◌}
use mathlib.Core.Bool.{Bool, true, false, cond, ◌||◌}
use mathlib.Core.List.{List, [], ◌∷◌, ◌++◌, append_assoc}
use Prim.Native.Nat.{ℕ, zero, suc, ◌+◌, ◌-◌, ◌*◌, ◌/◌, ◌%◌, ◌<◌}
use native.Mathlib.Nat.{div-lt_self, div-add-mod', mod-lt}
use native.Mathlib.Omega.{arith}
use borrow.Author.Tests.{lt-ltb, le-ltb, ltb-true, ltb-false}
use lib.Dec.{ltb}
use lib.IntN.{ℤ, pos, negsuc}
use lib.ListN.{length, drop, get_or}
use lib.Seq.{drop-append_seam}
use Rattle.writing.specs.Text.{bytes, digits, decimal, signed, spaced, pair_line, row_lines}

-- ---- a number

-- the number that the digits ahead say after n, with the bytes past them
read_on : ℕ → List ℕ → ℕ × List ℕ
read_on n [] = (n, [])
read_on n (b ∷ s) = cond (ltb b 48 || ltb 57 b) (n, b ∷ s) (read_on (n * 10 + (b - 48)) s)

read_digit : (n d : ℕ) (s : List ℕ) → d < 10 → read_on n ((48 + d) ∷ s) ≡ read_on (n * 10 + d) s
unfolding read_on
read_digit n d s h =
    let e : 48 + d - 48 ≡ d = omega arith in
    rw (le-ltb (48 + d) 48 (omega arith), le-ltb 57 (48 + d) (omega arith), e) refl

read_digits : (f n : ℕ) (s : List ℕ) → n < f → read_on 0 (digits f n ++ s) ≡ read_on n s
unfolding digits
read_digits zero n s h = absurd (omega arith)
read_digits (suc f) n s h = go (read_digits f (n / 10) ((48 + n % 10) ∷ s)) (ltb n 10) refl
  where
    go : (n / 10 < f → read_on 0 (digits f (n / 10) ++ (48 + n % 10) ∷ s) ≡ read_on (n / 10) ((48 + n % 10) ∷ s)) → (b : Bool) → ltb n 10 ≡ b
        → read_on 0 (cond b ((48 + n) ∷ []) (digits f (n / 10) ++ ((48 + n % 10) ∷ [])) ++ s) ≡ read_on n s
    go rest true e = let z : 0 * 10 + n ≡ n = omega arith in read_digit 0 n s (ltb-true n 10 e) ∙ ap (λ (k : ℕ). read_on k s) z
    go rest false e =
        let less : n / 10 < f = omega (arith, ltb-false n 10 e, div-lt_self {n = n} {k = 10} (omega (arith, ltb-false n 10 e)) (omega arith)) in
        rw append_assoc
        (rest less ∙ read_digit (n / 10) (n % 10) s (mod-lt n (omega arith)) ∙ ap (λ (k : ℕ). read_on k s) (div-add-mod' n 10))

-- past a space or a newline
read_number : (n b : ℕ) (s : List ℕ) → b < 48 → read_on 0 (decimal n ++ (b ∷ s)) ≡ (n, b ∷ s)
unfolding decimal read_on
read_number n b s h = read_digits (suc n) n (b ∷ s) (omega arith) ∙ rw (lt-ltb b 48 h) refl

pub number_same : (n m b c : ℕ) (s t : List ℕ) → b < 48 → c < 48 → decimal n ++ (b ∷ s) ≡ decimal m ++ (c ∷ t) → (n ≡ m) × (s ≡ t)
number_same n m b c s t h g e =
    let r : ◌≡◌ {A = ℕ × List ℕ} (n, b ∷ s) (m, c ∷ t) = sym (read_number n b s h) ∙ ap (read_on 0) e ∙ read_number m c t g in
    (ap (λ p. p.0) r, ap (λ p. drop 1 p.1) r)

-- ---- a signed number at the end of a line

read_sign : (s : List ℕ) → read_on 0 (45 ∷ s) ≡ (0, 45 ∷ s)
unfolding read_on
read_sign s = refl

-- digits and a newline aren't a sign and what comes after it
no_sign : (n : ℕ) (s t : List ℕ) → decimal n ++ (10 ∷ s) ≡ 45 ∷ t → ⊥
no_sign n s t e =
    let r : ◌≡◌ {A = ℕ × List ℕ} (n, 10 ∷ s) (0, 45 ∷ t) = sym (read_number n 10 s (omega arith)) ∙ ap (read_on 0) e ∙ read_sign t in
    let z : ◌≡◌ {A = ℕ} 10 45 = ap (λ p. get_or p.1 0 0) r in
    omega arith

pub signed_same : (x y : ℤ) (s t : List ℕ) → signed x ++ (10 ∷ s) ≡ signed y ++ (10 ∷ t) → (x ≡ y) × (s ≡ t)
unfolding signed bytes
signed_same (pos n) (pos m) s t e =
    let (number, rest) = number_same n m 10 10 s t (omega arith) (omega arith) e in
    (ap pos number, rest)
signed_same (pos n) (negsuc m) s t e = absurd (no_sign n s (decimal (suc m) ++ (10 ∷ t)) e)
signed_same (negsuc n) (pos m) s t e = absurd (no_sign m t (decimal (suc n) ++ (10 ∷ s)) (sym e))
signed_same (negsuc n) (negsuc m) s t e =
    let (number, rest) = number_same (suc n) (suc m) 10 10 s t (omega arith) (omega arith) (ap (drop 1) e) in
    (ap negsuc (omega (arith, number)), rest)

-- ---- a line

append_same : (w : List ℕ) {x y : List ℕ} → w ++ x ≡ w ++ y → x ≡ y
append_same w {x} {y} e = sym (drop-append_seam w x) ∙ ap (drop (length w)) e ∙ drop-append_seam w y

pair_line_read : (w : List ℕ) (a b : ℕ) (s : List ℕ) → pair_line w a b ++ s ≡ w ++ (32 ∷ (decimal a ++ (32 ∷ (decimal b ++ (10 ∷ s)))))
unfolding pair_line spaced bytes
pair_line_read w a b s = simp append_assoc

pub pair_line_same : (w : List ℕ) (a b c d : ℕ) (s t : List ℕ) → pair_line w a b ++ s ≡ pair_line w c d ++ t → (a ≡ c) × (b ≡ d) × (s ≡ t)
pair_line_same w a b c d s t e =
    let r = append_same w (sym (pair_line_read w a b s) ∙ e ∙ pair_line_read w c d t) in
    let (first, rest) = number_same a c 32 32 (decimal b ++ (10 ∷ s)) (decimal d ++ (10 ∷ t)) (omega arith) (omega arith) (ap (drop 1) r) in
    let (second, end) = number_same b d 10 10 s t (omega arith) (omega arith) rest in
    (first, second, end)

-- ---- the lines of a row, whose word begins with h

module _ (h : ℕ) (w : List ℕ) where
  pub rows_same : (i : ℕ) (row row' s t : List ℕ) → ((z : List ℕ) → s ≡ h ∷ z → ⊥) → ((z : List ℕ) → t ≡ h ∷ z → ⊥)
      → row_lines (h ∷ w) i row ++ s ≡ row_lines (h ∷ w) i row' ++ t → (row ≡ row') × (s ≡ t)
  unfolding row_lines pair_line
  rows_same i [] [] s t p q e = (refl, e)
  rows_same i [] (m ∷ row') s t p q e = absurd (p _ e)
  rows_same i (n ∷ row) [] s t p q e = absurd (q _ (sym e))
  rows_same i (n ∷ row) (m ∷ row') s t p q e =
      let line = pair_line (h ∷ w) i in
      let rest = row_lines (h ∷ w) (suc i) in
      let lines = sym (append_assoc (line n) (rest row) s) ∙ e ∙ append_assoc (line m) (rest row') t in
      let (_, number, others) = pair_line_same (h ∷ w) i n i m (rest row ++ s) (rest row' ++ t) lines in
      let (rows, end) = rows_same (suc i) row row' s t p q others in
      (cc, end)
