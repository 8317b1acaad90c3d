-- What is in transit grows with the sender and shrinks with the receiver; and, from this alone, what follows for the tests.
use mathlib.Core.Path.{◌≡◌, refl}
use mathlib.Core.Logic.{◌⊎◌, inl, inr, ⊎_elim, ◌↔◌}
use mathlib.Core.Bool.{Bool, true, false, cond}
use mathlib.Core.List.Sublistᴰ
use mathlib.Core.List.{List, Sublistᴰ}
use mathlib.Core.Option.{Option, some, none}
use Prim.Native.Nat.{ℕ, zero, suc, ◌≤◌}
use native.Mathlib.Nat.{le_antisymm}
use native.Mathlib.Decide.{le_ind}
use native.Mathlib.Omega.{arith}
use borrow.Author.Tests.{ltb-true, ltb-false}
use lib.Dec.{T, ltb, leb, leb→le, le→leb, eqb→eq}
use lib.ListN.{length}
use Rattle.model.specs.declared.Message.{Message}
use Rattle.model.specs.declared.Mover.{Mover}
use Rattle.model.specs.declared.Mover.TheVariants.{Sender, Receiver, NotLinear}
use Rattle.model.specs.Run.{Run, channel, paired}
use Rattle.model.specs.Cut.{sends, waiting, add, up_to, between}
use Rattle.model.specs.Clause.{Test, passes, mover}
use Rattle.model.specs.Linear.{linear}
use Rattle.model.specs.Clause.Clause.{on}
use Rattle.model.specs.Clause.Test.{count_at_most, count_at_least, count_is, stamp_is, no_stamp_is, every_at_least, some_at_most, count_odd, count_other}
use Rattle.model.proofs.Lists.{eq→eqb, T-or, some_more, every_fewer, fewer_length}
use Rattle.model.proofs.Messages.{arrived}

-- ---- the messages of more states, and fewer of each

add-more : (o : Option Message) {xs ys : List Message} → Sublistᴰ xs ys → Sublistᴰ xs (add o ys)
add-more none p = p
add-more (some m) p = Sublistᴰ.cons p

add_same : (o : Option Message) {xs ys : List Message} → Sublistᴰ xs ys → Sublistᴰ (add o xs) (add o ys)
add_same none p = p
add_same (some m) p = Sublistᴰ.cons-cons refl p

pub up_to_longer : (f : ℕ → Option Message) (a a' : ℕ) → a ≤ a' → Sublistᴰ (up_to f a) (up_to f a')
up_to_longer f a a' h = le_ind (λ n. Sublistᴰ (up_to f a) (up_to f n)) (Sublistᴰ.refl (up_to f a)) (λ n g p. add-more (f (suc n)) p) a' h

up_to_fuller : (f g : ℕ → Option Message) → ((k : ℕ) → (f k ≡ none) ⊎ (f k ≡ g k)) → (a : ℕ) → Sublistᴰ (up_to f a) (up_to g a)
up_to_fuller f g w zero = Sublistᴰ.slnil
up_to_fuller f g w (suc a) = ⊎_elim
    (λ e. rw e (add-more (g (suc a)) (up_to_fuller f g w a)))
    (λ e. rw e (add_same (g (suc a)) (up_to_fuller f g w a)))
    (w (suc a))

module _ (r : Run) where
  pub arrived_later : (i k j : ℕ) {b b' : ℕ} → b ≤ b' → T (arrived r i k j b) → T (arrived r i k j b')
  arrived_later i k j {b} {b'} h t = le_ind (λ n. T (arrived r i k j n)) t (λ n g u. T-or (paired r i k j (suc n)) (arrived r i k j n) (inr u)) b' h

  waiting_less : (c : ℕ) {b b' : ℕ} → b' ≤ b → (k : ℕ) → (waiting r c b k ≡ none) ⊎ (waiting r c b k ≡ waiting r c b' k)
  unfolding waiting
  waiting_less c {b} {b'} h k = go (arrived r i k j b) (arrived r i k j b') (arrived_later i k j h)
    where
      i : ℕ
      i = (channel r c).from

      j : ℕ
      j = (channel r c).to

      go : (x y : Bool) → (T y → T x) → (cond x none (sends r c k) ≡ none) ⊎ (cond x none (sends r c k) ≡ cond y none (sends r c k))
      go true y w = inl refl
      go false true w = absurd (w tt)
      go false false w = inr refl

  -- a sender further on, and a receiver less far on, leave every message in transit and may add some
  pub between_more : (c : ℕ) {a a' b b' : ℕ} → a ≤ a' → b' ≤ b → Sublistᴰ (between r c a b) (between r c a' b')
  unfolding between
  between_more c {a} {a'} {b} {b'} h g =
      Sublistᴰ.trans (up_to_longer (waiting r c b) a a' h) (up_to_fuller (waiting r c b) (waiting r c b') (waiting_less c g) a')

-- ---- the two parts of a test: what more messages keep true, and what fewer messages keep true

pub rises : Test → List Message → Bool
rises (count_at_most c) ms = true
rises (count_at_least c) ms = leb c (length ms)
rises (count_is c) ms = leb c (length ms)
rises (stamp_is x) ms = passes (stamp_is x) ms
rises (no_stamp_is x) ms = true
rises (every_at_least x) ms = true
rises (some_at_most x) ms = passes (some_at_most x) ms
rises count_odd ms = true
rises (count_other c) ms = true

pub falls : Test → List Message → Bool
falls (count_at_most c) ms = leb (length ms) c
falls (count_at_least c) ms = true
falls (count_is c) ms = leb (length ms) c
falls (stamp_is x) ms = true
falls (no_stamp_is x) ms = passes (no_stamp_is x) ms
falls (every_at_least x) ms = passes (every_at_least x) ms
falls (some_at_most x) ms = true
falls count_odd ms = true
falls (count_other c) ms = true

-- a test that says who has to move
abbrev pub LinearTest : Test → Type 0
LinearTest t = T (linear (on 0 t))

-- a linear test is true exactly if both its parts are
pub passes_parts : (t : Test) → LinearTest t → (ms : List Message) → T (passes t ms) ↔ (T (rises t ms) × T (falls t ms))
unfolding rises falls
passes_parts (count_at_most c) w ms = (λ u. (tt, u), λ u. u.1)
passes_parts (count_at_least c) w ms = (λ u. (u, tt), λ u. u.0)
passes_parts (count_is c) w ms = (
  λ u. let e = eqb→eq (length ms) c u in (le→leb c (length ms) (omega arith), le→leb (length ms) c (omega arith)),
  λ u. eq→eqb (length ms) c (le_antisymm (leb→le (length ms) c u.1) (leb→le c (length ms) u.0)),
)
passes_parts (stamp_is x) w ms = (λ u. (u, tt), λ u. u.0)
passes_parts (no_stamp_is x) w ms = (λ u. (tt, u), λ u. u.1)
passes_parts (every_at_least x) w ms = (λ u. (tt, u), λ u. u.1)
passes_parts (some_at_most x) w ms = (λ u. (u, tt), λ u. u.0)
passes_parts count_odd w ms = absurd w
passes_parts (count_other c) w ms = absurd w

leb_mono : {a b c d : ℕ} → c ≤ a → b ≤ d → T (leb a b) → T (leb c d)
leb_mono {a} {b} {c} {d} h g t = le→leb c d (omega (arith, leb→le a b t))

pub rises_more : (t : Test) {xs ys : List Message} → Sublistᴰ xs ys → T (rises t xs) → T (rises t ys)
unfolding rises
rises_more (count_at_most c) p u = tt
rises_more (count_at_least c) p u = leb_mono {a = c} {c = c} (omega arith) (fewer_length p) u
rises_more (count_is c) p u = leb_mono {a = c} {c = c} (omega arith) (fewer_length p) u
rises_more (stamp_is x) p u = some_more _ p u
rises_more (no_stamp_is x) p u = tt
rises_more (every_at_least x) p u = tt
rises_more (some_at_most x) p u = some_more _ p u
rises_more count_odd p u = tt
rises_more (count_other c) p u = tt

pub falls_fewer : (t : Test) {xs ys : List Message} → Sublistᴰ xs ys → T (falls t ys) → T (falls t xs)
unfolding falls
falls_fewer (count_at_most c) p u = leb_mono {b = c} {d = c} (fewer_length p) (omega arith) u
falls_fewer (count_at_least c) p u = tt
falls_fewer (count_is c) p u = leb_mono {b = c} {d = c} (fewer_length p) (omega arith) u
falls_fewer (stamp_is x) p u = tt
falls_fewer (no_stamp_is x) p u = every_fewer _ p u
falls_fewer (every_at_least x) p u = every_fewer _ p u
falls_fewer (some_at_most x) p u = tt
falls_fewer count_odd p u = tt
falls_fewer (count_other c) p u = tt

-- ---- if false, who has to move

-- the part of the test that is the mover's to make true
abbrev pub part : Mover → Test → List Message → Bool
part Sender t ms = rises t ms
part Receiver t ms = falls t ms
part NotLinear t ms = false

-- of a false test, the part of the one who has to move is false
pub mover_part : (t : Test) (ms : List Message) → ¬ T (passes t ms) → ¬ T (part (mover t (length ms)) t ms)
unfolding rises falls
mover_part (count_at_most c) ms n = n
mover_part (count_at_least c) ms n = n
mover_part (count_is c) ms n = go (ltb (length ms) c) refl
  where
    go : (b : Bool) → ltb (length ms) c ≡ b → ¬ T (part (cond b Sender Receiver) (count_is c) ms)
    go true e t = absurd (omega (arith, ltb-true (length ms) c e, leb→le c (length ms) t))
    go false e t = n (eq→eqb (length ms) c (le_antisymm (leb→le (length ms) c t) (ltb-false (length ms) c e)))
mover_part (stamp_is x) ms n = n
mover_part (no_stamp_is x) ms n = n
mover_part (every_at_least x) ms n = n
mover_part (some_at_most x) ms n = n
mover_part count_odd ms n = λ t. t
mover_part (count_other c) ms n = λ t. t

module _ (r : Run) (c : ℕ) (t : Test) (linear : LinearTest t) where
  -- the test stays false while that process stays where it is, however far the other goes forward
  pub sender_stays : (a b : ℕ) → ¬ T (passes t (between r c a b)) → mover t (length (between r c a b)) ≡ Sender
      → (b' : ℕ) → b ≤ b' → ¬ T (passes t (between r c a b'))
  sender_stays a b n e b' h u =
      let false-part : ¬ T (rises t (between r c a b)) = rw e at (mover_part t (between r c a b) n) in
      false-part (rises_more t (between_more r c (omega arith) h) ((passes_parts t linear (between r c a b')).0 u).0)

  pub receiver_stays : (a b : ℕ) → ¬ T (passes t (between r c a b)) → mover t (length (between r c a b)) ≡ Receiver
      → (a' : ℕ) → a ≤ a' → ¬ T (passes t (between r c a' b))
  receiver_stays a b n e a' h u =
      let false-part : ¬ T (falls t (between r c a b)) = rw e at (mover_part t (between r c a b) n) in
      false-part (falls_fewer t (between_more r c h (omega arith)) ((passes_parts t linear (between r c a' b)).0 u).1)
