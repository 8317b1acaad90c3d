-- Bytes put one after the other are put as one.
use mathlib.Core.Path.{◌≡◌, refl, sym, ap, ◌∙◌}
use mathlib.Core.Logic.{⊎_elim}
use mathlib.Core.List.{List, [], ◌∷◌, ◌++◌, append_assoc}
use Prim.Native.Nat.{ℕ, zero, suc, ◌+◌, ◌-◌, ◌≤◌, ◌<◌, min}
use native.Mathlib.Numerals.{add-one}
use native.Mathlib.Omega.{arith}
use borrow.Rule.Slice.PartMut.{put_mid}
use lib.ListN.{length, take, drop, set, length-append, length-set, length-take}
use lib.Seq.{drop-drop, set_out, sets, sets-eq, length-sets}
use Rattle.model.proofs.Lists.{le_or_lt}
use Rattle.writing.specs.Stored.{Put, last}
use Rattle.writing.specs.declared.Lines.{Lines}
use Rattle.writing.proofs.Rows.{lines_to}

sets_out : (b : List ℕ) (at : ℕ) (x : List ℕ) → length b ≤ at → sets b at x ≡ b
sets_out b at [] h = refl
sets_out b at (a ∷ x) h = rw (set_out b at a h) (sets_out b (suc at) x (omega arith))

sets_append : (b : List ℕ) (at : ℕ) (x y : List ℕ) → sets b at (x ++ y) ≡ sets (sets b at x) (at + length x) y
sets_append b at [] y = let e : at ≡ at + 0 = omega arith in ap (λ (k : ℕ). sets b k y) e
sets_append b at (a ∷ x) y =
    let e : suc at + length x ≡ at + suc (length x) = omega arith in
    sets_append (set b at a) (suc at) x y ∙ ap (λ (k : ℕ). sets (sets (set b at a) (suc at) x) k y) e

-- the place may have stopped past the end, where nothing is stored any more
sets_stopped : (b : List ℕ) (place stop : ℕ) (y : List ℕ) → length b ≤ stop → sets b (min place stop) y ≡ sets b place y
sets_stopped b place stop y h = ⊎_elim
    (λ g. let e : min place stop ≡ place = omega arith in ap (λ (k : ℕ). sets b k y) e)
    (λ g. sets_out b (min place stop) y (omega arith) ∙ sym (sets_out b place y (omega arith)))
    (le_or_lt place stop)

-- what doesn't fit isn't stored
sets_cut : (b : List ℕ) (at n : ℕ) (x : List ℕ) → min (length x) (length b - at) ≤ n → sets b at x ≡ sets b at (take n x)
sets_cut b at zero [] h = refl
sets_cut b at (suc n) [] h = refl
sets_cut b at zero (a ∷ x) h = sets_out b at (a ∷ x) (omega arith)
sets_cut b at (suc n) (a ∷ x) h = sets_cut (set b at a) (suc at) n x (omega (arith, length-set b at a))

-- what fits is copied
pub sets-copy : (b : List ℕ) (at start k : ℕ) (x y : List ℕ) → start ≡ min at (length b) → k ≡ min (length x) (length b - start) → y ≡ take k x
    → sets b at x ≡ put_mid start k b y
sets-copy b at start k x y s m e =
    let long : length y ≡ k = ap length e ∙ length-take k x ∙ omega arith in
    let first : sets b start x ≡ sets b at x = rw s (sets_stopped b at (length b) x (omega arith)) in
    sym first ∙ sets_cut b start k x (omega arith) ∙ ap (sets b start) (sym e) ∙ sets-eq y b start (omega arith) ∙ append_assoc (take start b) y (drop (start + length y) b)
    ∙ ap (λ l. take start b ++ (y ++ l)) (ap (λ n. drop (start + n) b) long ∙ sym (drop-drop k start b))

pub put_none : (l : Lines) → length l.buffer.now < last → Put [] l l
put_none l h = record { same_reference = refl; short = h; end = omega (arith, l.within); stored = refl }

pub put_then : {x y : List ℕ} {l l₁ l₂ : Lines} → Put x l l₁ → Put y l₁ l₂ → Put (x ++ y) l l₂
put_then {x} {y} {l} {l₁} {l₂} p q = record {
  same_reference = q.same_reference ∙ p.same_reference;
  short = p.short;
  end = let e = length-append x y in omega (arith, p.end, q.end);
  stored = q.stored
      ∙ ap (λ (k : ℕ). sets l₁.buffer.now k y) p.end
      ∙ sets_stopped l₁.buffer.now (l.at + length x) last y (omega (arith, q.short))
      ∙ ap (λ (s : List ℕ). sets s (l.at + length x) y) p.stored
      ∙ sym (sets_append l.buffer.now l.at x y);
}

pub put_as : {x y : List ℕ} {l l' : Lines} → Put x l l' → x ≡ y → Put y l l'
put_as p e = rw e at p

-- of one lent buffer there is one with nothing put, and one with the bytes up to a place
pub new_same : {s : List ℕ} {at : ℕ} (l l' : Lines) → l.at ≡ at → l.buffer.now ≡ s → l'.at ≡ at → l'.buffer.now ≡ s → (l.at ≡ l'.at) × (l.buffer.now ≡ l'.buffer.now)
new_same l l' front bytes front' bytes' = (front ∙ sym front', bytes ∙ sym bytes')

-- what is put, the place and the bytes of the buffer determine the place after it and the bytes then
pub put_same : {x : List ℕ} {l m l₁ m₁ : Lines} → l.at ≡ m.at → l.buffer.now ≡ m.buffer.now → Put x l l₁ → Put x m m₁
    → (l₁.at ≡ m₁.at) × (l₁.buffer.now ≡ m₁.buffer.now)
put_same {x} {l} {m} place bytes p q = (
  p.end ∙ ap (λ at. min (at + length x) last) place ∙ sym q.end,
  p.stored ∙ ap (λ at. sets l.buffer.now at x) place ∙ ap (λ b. sets b m.at x) bytes ∙ sym q.stored,
)

pub put_long : {x : List ℕ} {l l' : Lines} → Put x l l' → length l'.buffer.now ≡ length l.buffer.now
put_long {x} {l} p = rw p.stored (length-sets l.buffer.now l.at x)

-- ---- line by line

module _ (line : ℕ → List ℕ) {l l₁ : Lines} {i : ℕ} (p : Put (lines_to line i) l l₁) where
  pub lines_next : {l₂ : Lines} → Put (line i) l₁ l₂ → Put (lines_to line (i + 1)) l l₂
  lines_next q = rw add-one (put_then p q)

  pub lines_all : {k : ℕ} {whole : List ℕ} → i ≡ k → lines_to line k ≡ whole → Put whole l l₁
  lines_all e all = rw (ap (lines_to line) e ∙ all) at p
