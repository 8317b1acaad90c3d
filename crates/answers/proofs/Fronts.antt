-- The front of what is left of a row.
use mathlib.Core.Path.{◌≡◌, sym, ap, ◌∙◌}
use mathlib.Core.List.{List, ◌∷◌}
use Prim.Native.Nat.{ℕ, ◌+◌, ◌<◌}
use native.Mathlib.Omega.{arith}
use lib.ListN.{length, get_or, drop, length-drop}
use Rattle.std.proofs.lemmas.List.{drop_more}

-- it is the element at the place reached
pub front_at : {A : Type 0} (s : List A) (k : ℕ) (d x : A) (rest : List A) → drop k s ≡ x ∷ rest → (k < length s) × (x ≡ get_or s k d) × (rest ≡ drop (k + 1) s)
front_at {A} s k d x rest e =
    let n : length (drop k s) ≡ length (x ∷ rest) = ap length e in
    let h : k < length s = omega (arith, n, length-drop k s) in
    let f : x ∷ rest ≡ get_or s k d ∷ drop (k + 1) s = sym e ∙ drop_more s k d h in
    (h, cc, cc)
