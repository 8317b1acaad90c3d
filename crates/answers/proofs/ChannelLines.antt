-- The lines that say what is on a channel: those of all channels are put one after the other, they can be read back, and they are short.
use mathlib.Core.Path.{◌≡◌, refl, sym, ap, ◌∙◌}
use mathlib.Core.List.{List, [], ◌∷◌, ◌++◌, append_assoc}
use Prim.Native.Nat.{ℕ, zero, suc, ◌+◌, ◌*◌, ◌^◌, ◌≤◌, ◌<◌, min}
use native.Mathlib.Nat.{zero-add, add-zero, suc-add, add-suc}
use native.Mathlib.Omega.{arith}
use lib.IntN.{ℤ, pos}
use lib.ListN.{length, get_or, drop, length-append}
use mir.Syntax.{w32}
use mir.Val.{SFits}
use Rattle.writing.specs.Text.{bytes, decimal, signed, spaced}
use Rattle.writing.proofs.Lengths.{decimal_short, signed_short}
use Rattle.writing.proofs.Rows.{lines_to, lines_first, lines_short}
use Rattle.writing.proofs.Reading.{number_same, signed_same}
use Rattle.answers.specs.Lines.{stamp_word, channel_line, channel_lines, count_line}

pub stamp_of_some : (n : ℕ) (x : ℤ) → (n ≡ 0 → ⊥) → stamp_word n x ≡ signed x
unfolding stamp_word
stamp_of_some zero x p = absurd (p refl)
stamp_of_some (suc n) x p = refl

-- ---- one after the other

-- lines that are those of the channels, the first of which has the number i
lines_from : (i : ℕ) (counts : List ℕ) (stamps : List ℤ) (line : ℕ → List ℕ)
    → ((j : ℕ) → line j ≡ channel_line (i + j) (get_or counts j 0) (get_or stamps j (pos 0)))
    → lines_to line (min (length counts) (length stamps)) ≡ channel_lines i counts stamps
unfolding channel_lines
lines_from i [] stamps line same = let none : min 0 (length stamps) ≡ 0 = omega arith in ap (lines_to line) none
lines_from i (n ∷ counts) [] line same = let none : min (suc (length counts)) 0 ≡ 0 = omega arith in ap (lines_to line) none
lines_from i (n ∷ counts) (x ∷ stamps) line same =
    let more : min (suc (length counts)) (suc (length stamps)) ≡ suc (min (length counts) (length stamps)) = omega arith in
    let first : line 0 ≡ channel_line i n x = rw add-zero at (same 0) in
    let rest = lines_from (suc i) counts stamps (λ j. line (suc j)) (λ j. rw suc-add (rw add-suc at (same (suc j)))) in
    ap (lines_to line) more ∙ lines_first line (min (length counts) (length stamps)) ∙ rw (first, rest) refl

module _ (counts : List ℕ) (stamps : List ℤ) where
  abbrev pub channel_line_at : ℕ → List ℕ
  channel_line_at j = channel_line j (get_or counts j 0) (get_or stamps j (pos 0))

  pub channel-lines : lines_to channel_line_at (min (length counts) (length stamps)) ≡ channel_lines 0 counts stamps
  channel-lines = lines_from 0 counts stamps channel_line_at (λ j. rw zero-add refl)

-- ---- reading back

stamp_same : (n : ℕ) (x y : ℤ) (s t : List ℕ) → stamp_word n x ++ (10 ∷ s) ≡ stamp_word n y ++ (10 ∷ t) → ((n ≡ 0 → ⊥) → x ≡ y) × (s ≡ t)
unfolding stamp_word bytes
stamp_same zero x y s t e = (λ p. absurd (p refl), ap (drop 2) e)
stamp_same (suc n) x y s t e = let (stamp, rest) = signed_same x y s t e in (λ p. stamp, rest)

channel_line_read : (i n : ℕ) (x : ℤ) (s : List ℕ)
    → drop 8 (channel_line i n x ++ s) ≡ decimal i ++ (32 ∷ (decimal n ++ (32 ∷ (stamp_word n x ++ (10 ∷ s)))))
unfolding channel_line spaced bytes
channel_line_read i n x s = simp append_assoc

-- the stamp of an empty channel isn't printed
pub channel_line_same : (i n m : ℕ) (x y : ℤ) (s t : List ℕ) → channel_line i n x ++ s ≡ channel_line i m y ++ t
    → (n ≡ m) × ((n ≡ 0 → ⊥) → x ≡ y) × (s ≡ t)
channel_line_same i n m x y s t e =
    let after : ℕ → ℤ → List ℕ → List ℕ = λ k z l. stamp_word k z ++ (10 ∷ l) in
    let r = sym (channel_line_read i n x s) ∙ ap (drop 8) e ∙ channel_line_read i m y t in
    let (_, counted) = number_same i i 32 32 (decimal n ++ (32 ∷ after n x s)) (decimal m ++ (32 ∷ after m y t)) (omega arith) (omega arith) r in
    let (count, stamped) = number_same n m 32 32 (after n x s) (after m y t) (omega arith) (omega arith) counted in
    let (stamp, end) = stamp_same n x y s t (stamped ∙ ap (λ (k : ℕ). after k y t) (sym count)) in
    (count, stamp, end)

count_line_read : (n : ℕ) (x : ℤ) → drop 6 (count_line n x) ≡ decimal n ++ (32 ∷ (signed x ++ (10 ∷ [])))
unfolding count_line spaced bytes
count_line_read n x = simp append_assoc

pub count_line_same : (n m : ℕ) (x y : ℤ) → count_line n x ≡ count_line m y → (n ≡ m) × (x ≡ y)
count_line_same n m x y e =
    let r = sym (count_line_read n x) ∙ ap (drop 6) e ∙ count_line_read m y in
    let (count, stamped) = number_same n m 32 32 (signed x ++ (10 ∷ [])) (signed y ++ (10 ∷ [])) (omega arith) (omega arith) r in
    (count, (signed_same x y [] [] stamped).0)

-- ---- how long they are

stamp_short : (n : ℕ) (x : ℤ) → SFits w32 x → length (stamp_word n x) ≤ 11
unfolding stamp_word bytes
stamp_short zero x fits = omega arith
stamp_short (suc n) x fits = signed_short x fits

channel_line_long : (i n : ℕ) (x : ℤ) → length (channel_line i n x) ≡ length (decimal i) + length (decimal n) + length (stamp_word n x) + 11
unfolding channel_line spaced bytes
channel_line_long i n x = simp length-append (omega arith)

pub count_line_long : (n : ℕ) (x : ℤ) → length (count_line n x) ≡ length (decimal n) + length (signed x) + 8
unfolding count_line spaced bytes
count_line_long n x = simp length-append (omega arith)

-- the numbers of the lines have at most d + 1 digits, the counts at most five
pub channel_lines_short : (d : ℕ) (counts : List ℕ) (stamps : List ℤ) → length counts ≤ 10 ^ suc d
    → ((k : ℕ) → get_or counts k 0 < 65536) → ((k : ℕ) → SFits w32 (get_or stamps k (pos 0)))
    → length (channel_lines 0 counts stamps) ≤ min (length counts) (length stamps) * (d + 28)
channel_lines_short d counts stamps h small fits =
    rw (channel-lines counts stamps) at (lines_short (channel_line_at counts stamps) (d + 28) (min (length counts) (length stamps)) each)
  where
    each : (j : ℕ) → j < min (length counts) (length stamps) → length (channel_line_at counts stamps j) ≤ d + 28
    each j g =
        let first = decimal_short d j (omega arith) in
        let second = decimal_short 4 (get_or counts j 0) (omega (arith, small j)) in
        let third = stamp_short (get_or counts j 0) (get_or stamps j (pos 0)) (fits j) in
        omega (arith, channel_line_long j (get_or counts j 0) (get_or stamps j (pos 0)))
