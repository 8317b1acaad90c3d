-- The lowest stamp of messages: there is one exactly if there are messages, it is one, it goes on message by message, and tests 6 and 7 can be told from it.
use mathlib.Core.Path.{◌≡◌, refl, sym, ap, subst}
use mathlib.Core.Logic.{◌≢◌, ◌↔◌}
use mathlib.Core.Bool.{Bool, true, false, not, cond}
use mathlib.Core.List.Memᴰ
use mathlib.Core.List.{List, [], ◌∷◌, Memᴰ}
use native.Mathlib.Omega.{arith}
use lib.Dec.{T, leb→le, le→leb, nleb→lt}
use lib.IntN.{ℤ, pos, negsuc}
use lib.Signed.{le_z, ≤ℤ_refl}
use Rattle.model.specs.declared.Message.{Message}
use Rattle.model.specs.Clause.{passes}
use Rattle.model.specs.Clause.Test.{every_at_least, some_at_most}
use Rattle.model.specs.LowestStamp.{LowestStamp}
use Rattle.model.proofs.Lists.{every_mem, mem_every, some_mem, mem_some}
use Rattle.model.proofs.Numbers.{T_of, not_T_of}

-- ---- signed numbers in order

le_z_trans : (a b c : ℤ) → T (le_z a b) → T (le_z b c) → T (le_z a c)
le_z_trans (pos a) (pos b) (pos c) h k = le→leb a c (omega (arith, leb→le a b h, leb→le b c k))
le_z_trans (pos a) (pos b) (negsuc c) h k = k
le_z_trans (pos a) (negsuc b) c h k = absurd h
le_z_trans (negsuc a) (pos b) (pos c) h k = tt
le_z_trans (negsuc a) (pos b) (negsuc c) h k = absurd k
le_z_trans (negsuc a) (negsuc b) (pos c) h k = tt
le_z_trans (negsuc a) (negsuc b) (negsuc c) h k = le→leb c a (omega (arith, leb→le b a h, leb→le c b k))

pub le_z_antisym : (a b : ℤ) → T (le_z a b) → T (le_z b a) → a ≡ b
le_z_antisym (pos a) (pos b) h k = let e : a ≡ b = omega (arith, leb→le a b h, leb→le b a k) in ap pos e
le_z_antisym (pos a) (negsuc b) h k = absurd h
le_z_antisym (negsuc a) (pos b) h k = absurd k
le_z_antisym (negsuc a) (negsuc b) h k = let e : a ≡ b = omega (arith, leb→le b a h, leb→le a b k) in ap negsuc e

not_of : {b : Bool} → b ≡ false → T (not b)
not_of e = rw e tt

le_z_other : (a b : ℤ) → le_z a b ≡ false → T (le_z b a)
le_z_other (pos a) (pos b) e = le→leb b a (omega (arith, nleb→lt a b (not_of e)))
le_z_other (pos a) (negsuc b) e = tt
le_z_other (negsuc a) (pos b) e = absurd (not_T_of e tt)
le_z_other (negsuc a) (negsuc b) e = le→leb a b (omega (arith, nleb→lt b a (not_of e)))

-- ---- there is one exactly if there are messages, and it is one

pub lowest_one : {ms : List Message} {x y : ℤ} → LowestStamp ms x → LowestStamp ms y → x ≡ y
lowest_one {ms} {x} {y} v w = le_z_antisym x y (at_most v w) (at_most w v)
  where
    at_most : {x y : ℤ} → LowestStamp ms x → LowestStamp ms y → T (le_z x y)
    at_most {x} v w = let (m, there, e) = w.held in subst (λ z. T (le_z x z)) e (v.least m there)

pub lowest_first : (m : Message) → LowestStamp (m ∷ []) m.stamp
lowest_first m = record {
  held = (m, Memᴰ.head refl, refl);
  least = λ n there. least n there;
}
  where
    least : (n : Message) → Memᴰ n (m ∷ []) → T (le_z m.stamp n.stamp)
    least n (Memᴰ.head e) = rw e (≤ℤ_refl m.stamp).le
    least n (Memᴰ.tail there) = absurd (Memᴰ.not-nil there)

-- with one message more it is the lower of the two
pub lowest_next : (m : Message) {ms : List Message} {x : ℤ} → LowestStamp ms x → LowestStamp (m ∷ ms) (cond (le_z x m.stamp) x m.stamp)
lowest_next m {ms} {x} w = go (le_z x m.stamp) refl
  where
    kept : T (le_z x m.stamp) → (n : Message) → Memᴰ n (m ∷ ms) → T (le_z x n.stamp)
    kept t n (Memᴰ.head e) = rw e t
    kept t n (Memᴰ.tail there) = w.least n there

    lowered : T (le_z m.stamp x) → (n : Message) → Memᴰ n (m ∷ ms) → T (le_z m.stamp n.stamp)
    lowered t n (Memᴰ.head e) = rw e (≤ℤ_refl m.stamp).le
    lowered t n (Memᴰ.tail there) = le_z_trans m.stamp x n.stamp t (w.least n there)

    go : (b : Bool) → le_z x m.stamp ≡ b → LowestStamp (m ∷ ms) (cond b x m.stamp)
    go true e = let (n, there, same) = w.held in record { held = (n, Memᴰ.tail there, same); least = kept (T_of e) }
    go false e = record { held = (m, Memᴰ.head refl, refl); least = lowered (le_z_other x m.stamp e) }

lowest_some : (m : Message) (ms : List Message) → (x : ℤ) × LowestStamp (m ∷ ms) x
lowest_some m [] = (m.stamp, lowest_first m)
lowest_some m (n ∷ ms) = let (x, w) = lowest_some n ms in (cond (le_z x m.stamp) x m.stamp, lowest_next m w)

pub lowest_exactly : (ms : List Message) → ((x : ℤ) × LowestStamp ms x) ↔ (ms ≢ [])
lowest_exactly ms = (λ (x, w). not_empty w, there ms)
  where
    not_empty : {x : ℤ} → LowestStamp ms x → ms ≢ []
    not_empty w e = let (m, there, _) = w.held in Memᴰ.not-nil (rw e at there)

    there : (ms : List Message) → ms ≢ [] → (x : ℤ) × LowestStamp ms x
    there [] n = absurd (n refl)
    there (m ∷ ms) n = lowest_some m ms

-- ---- tests 6 and 7 can be told from it

same_test : (a b : Bool) → (T a → T b) → (T b → T a) → a ≡ b
same_test true true f g = refl
same_test true false f g = absurd (f tt)
same_test false true f g = absurd (g tt)
same_test false false f g = refl

module _ {ms : List Message} {x : ℤ} (w : LowestStamp ms x) (y : ℤ) where
  pub every_by_lowest : passes (every_at_least y) ms ≡ le_z y x
  every_by_lowest = same_test (passes (every_at_least y) ms) (le_z y x)
      (λ t. let (m, there, e) = w.held in subst (λ z. T (le_z y z)) e (every_mem (λ m. le_z y m.stamp) t there))
      (λ t. mem_every (λ m. le_z y m.stamp) ms (λ m there. le_z_trans y x m.stamp t (w.least m there)))

  pub some_by_lowest : passes (some_at_most y) ms ≡ le_z x y
  some_by_lowest = same_test (passes (some_at_most y) ms) (le_z x y)
      (λ t. let (m, there, u) = some_mem (λ m. le_z m.stamp y) ms t in le_z_trans x m.stamp y (w.least m there) u)
      (λ t. let (m, there, e) = w.held in mem_some (λ m. le_z m.stamp y) there (subst (λ z. T (le_z z y)) (sym e) t))
