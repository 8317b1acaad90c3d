-- Both rows after one move: the law of one move at the channel of its event, and all others as they were.
use mathlib.Core.Path.{◌≡◌, sym, ◌∙◌, subst}
use mathlib.Core.Logic.{◌≢◌}
use mathlib.Core.Bool.{Bool, true, false, not, cond}
use mathlib.Core.List.{List}
use mathlib.Core.Option.{some}
use Prim.Native.Nat.{ℕ, ◌+◌, ◌-◌, ◌<◌}
use native.Mathlib.Decide.{ℕ_discrete}
use native.Mathlib.Omega.{arith}
use lib.ListN.{length, get_or, set, length-set}
use lib.Seq.{get_or-set_same, get_or-set_other}
use Rattle.model.specs.declared.Message.{Message}
use Rattle.model.specs.Run.{Run}
use Rattle.model.specs.NotYetSent.{OneMove}
use Rattle.kept.specs.Kept.{EachCounted, Countable}

module _ {r : Run} {f g : ℕ → List Message} {row : List ℕ} (w : EachCounted r f row) where
  -- as many as before on each channel
  pub none_changed : ((c : ℕ) → c < length r.channels → length (g c) ≡ length (f c)) → EachCounted r g row
  none_changed s = record { room = w.room; each = λ c h. w.each c h ∙ sym (s c h) }

  -- on each channel but one
  pub one_changed : {d n : ℕ} → d < length r.channels → ((c : ℕ) → c < length r.channels → c ≢ d → length (g c) ≡ length (f c)) → n ≡ length (g d)
      → EachCounted r g (set row d n)
  one_changed {d} {n} k s e = record {
    room = omega (arith, w.room, length-set row d n);
    each = λ c h. elim (ℕ_discrete c d) [
      | yes z ↦ rw z (get_or-set_same row d n 0 (omega (arith, w.room)) ∙ e)
      | no z ↦ get_or-set_other row d c n 0 z ∙ w.each c h ∙ sym (s c h z)
    ];
  }

-- a message on channel d may be counted, and what is known of both rows afterwards
pub record CountedMessage (past : Bool) (d : ℕ) (own other : List ℕ) (After : List ℕ → List ℕ → Type 0) : Type 0 where
  pub needs : Countable past d own other
  pub after : After (cond past (set own d (get_or own d 0 + 1)) own) (cond past other (set other d (get_or other d 0 - 1)))

-- where its other end is past the cut it is one more of its own number, else one less of the other's
module _ {r : Run} (f g f' g' : ℕ → List Message) {own other : List ℕ} (v : EachCounted r f own) (w : EachCounted r g other) {d : ℕ} (there : d < length r.channels) where
  -- the other channels are as they were
  abbrev Elsewhere : (ℕ → List Message) → (ℕ → List Message) → Type 0
  Elsewhere x x' = (c : ℕ) → c < length r.channels → c ≢ d → length (x' c) ≡ length (x c)

  abbrev Move : Bool → Message → Type 0
  Move past m = OneMove (some m) (not past) (length (f d)) (length (g d)) (length (f' d)) (length (g' d))

  counted_own : (past : Bool) (m : Message) → Move past m → Elsewhere f f' → EachCounted r f' (cond past (set own d (get_or own d 0 + 1)) own)
  counted_own true m (a, b) s = one_changed v there s (omega (arith, v.each d there, a))
  counted_own false m (a, b) s = none_changed v (λ c h. elim (ℕ_discrete c d) [ yes z ↦ rw z a | no z ↦ s c h z ])

  counted_other : (past : Bool) (m : Message) → Move past m → Elsewhere g g' → EachCounted r g' (cond past other (set other d (get_or other d 0 - 1)))
  counted_other true m (a, b) s = none_changed w (λ c h. elim (ℕ_discrete c d) [ yes z ↦ rw z b | no z ↦ s c h z ])
  counted_other false m (a, b) s = one_changed w there s (omega (arith, w.each d there, b))

  countable : (past : Bool) (m : Message) → Move past m → length (f d) < 65535 → Countable past d own other
  countable past m move few = record {
    in_own = omega (arith, v.room);
    in_other = omega (arith, w.room);
    room = omega (arith, v.each d there, few);
    some = λ e. let (a, b) = subst (λ t. Move t m) e move in omega (arith, w.each d there, b);
  }

  pub counted_message : (After : List ℕ → List ℕ → Type 0) → ((x y : List ℕ) → EachCounted r f' x → EachCounted r g' y → After x y) → (past : Bool) (m : Message) → Move past m
      → length (f d) < 65535 → Elsewhere f f' → Elsewhere g g' → CountedMessage past d own other After
  counted_message After both past m move few s t =
      record { needs = countable past m move few; after = both _ _ (counted_own past m move s) (counted_other past m move t) }
