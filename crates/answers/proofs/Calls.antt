-- Lines that were put where there is no room, and then in the lent buffer, are made there; or it is too short for them.
use mathlib.Core.Path.{◌≡◌, refl, sym, ap, subst, ◌∙◌}
use mathlib.Core.List.{List, ◌++◌}
use Prim.Native.Nat.{ℕ, ◌+◌, ◌≤◌, ◌<◌, min}
use native.Mathlib.Omega.{arith}
use lib.ListN.{length, drop}
use lib.Seq.{sets, sets-eq}
use Rattle.std.specs.Prelude.{Some, None}
use Rattle.writing.specs.Stored.{Put, last}
use Rattle.writing.specs.declared.Lines.{Lines}
use Rattle.answers.specs.Made.{MadeOf}
use Rattle.answers.specs.Made.MadeOf.{made, too_short}

-- first where there is no room
module _ {x : List ℕ} {first l : Lines} (put : Put x first l) (front : first.at ≡ 0) {n : ℕ} (told : n ≡ l.at) where
  long : n ≡ min (length x) last
  long = let from : 0 + length x ≡ length x = omega arith in told ∙ put.end ∙ rw (front, from) refl

  pub put_short : {c : List ℕ} → length c < n → MadeOf x c c None
  put_short h = too_short (omega (arith, long)) refl

  -- then in the buffer
  pub put_made : {b c : List ℕ} {second l' : Lines} → Put x second l' → second.at ≡ 0 → second.buffer.now ≡ c → b ≡ l'.buffer.now → n ≤ length c → MadeOf x c b (Some n)
  put_made {b} {c} {second} q start same left h =
      let fits : n ≡ length x = omega (arith, long, ap length same, q.short) in
      let from : 0 + length x ≡ length x = omega arith in
      let all : sets c 0 x ≡ x ++ drop (length x) c = sets-eq x c 0 (omega arith) ∙ ap (λ (k : ℕ). x ++ drop k c) from in
      let stands : b ≡ x ++ drop (length x) c = left ∙ q.stored ∙ rw (start, same) all in
      subst (λ (n : ℕ). MadeOf x c b (Some n)) (sym fits) (made (omega arith) stands)
