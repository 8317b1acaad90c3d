-- A reader's two fields determine it, so the contracts of `new` and `moved` leave one answer. A part's pointer and bytes are determined by the
-- contract of `refused_bytes`: what is left of a reference is the name that proofs give it, which no program has. The other contracts are equations with the answer.
use mathlib.Core.Path.{◌≡◌, ap, sym, ◌∙◌}
use mathlib.Core.List.{List}
use Prim.Native.Nat.{ℕ}
use denote.Ref.{Bor}
use Rattle.reader.specs.declared.Reader.{Reader}
use Rattle.reader.specs.declared.Part.{Part}
use Rattle.reader.specs.Shown.{IsPart}

pub one_reader : (s : Bor (List ℕ)) (n : ℕ) (r q : Reader) → (r.run ≡ s) × (r.place ≡ n) → (q.run ≡ s) × (q.place ≡ n) → r ≡ q
one_reader s n r q (e, f) (g, h) = ap (λ x. record { run = x; place = r.place }) (e ∙ sym g) ∙ ap (λ x. record { run = q.run; place = x }) (f ∙ sym h)

pub one_part : {run condition r q : Bor (List ℕ)} {p : Part} → IsPart run condition p r → IsPart run condition p q → (r.ref_ptr ≡ q.ref_ptr) × (r.now ≡ q.now)
one_part a b = (a.begins ∙ sym b.begins, a.bytes ∙ sym b.bytes)
