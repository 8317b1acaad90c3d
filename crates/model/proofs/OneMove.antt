-- The law of one move: how the count in transit and the count received but not yet sent change where an end of the channel moves one state, at any cut,
-- consistent or not. It is proved once, for any relation of one to one, and used for both ends.
use mathlib.Core.Path.{◌≡◌, refl, sym, ap, ◌∙◌, subst}
use mathlib.Core.Logic.{⊎_elim, ◌≢◌, ◌↔◌}
use mathlib.Core.Bool.{Bool, true, false, ◌||◌, cond}
use mathlib.Core.Option.{Option, some, none}
use Prim.Native.Nat.{ℕ, zero, suc, ◌+◌, ◌≤◌}
use native.Mathlib.Nat.{eq-or-lt_of_le}
use native.Mathlib.Omega.{arith}
use lib.Dec.{T}
use lib.ListN.{length}
use Rattle.model.proofs.Numbers.{never}
use Rattle.model.specs.declared.Message.{Message}
use Rattle.model.specs.declared.Event.{Event}
use Rattle.model.specs.declared.Event.TheVariants.{Start}
use Rattle.model.specs.Run.{Run, channel, sending, receiving, paired, Paired}
use Rattle.model.specs.Known.{Known}
use Rattle.model.specs.Cut.{on_channel, sends, some_up_to, waiting, add, up_to, between}
use Rattle.model.specs.Sent.{receives}
use Rattle.model.specs.NotYetSent.{unsent, ahead, OneMove}
use Rattle.model.proofs.Lists.{some_at, at_some}
use Rattle.model.proofs.Pairing.{view, sent_there, first_start, one_send, one_receive}
use Rattle.model.proofs.Messages.{arrived, sends_send, send_sends, receives_receive, receive_receives}

-- lists that agree state by state are as long, and one that has a message more at one state is longer by one
up_to-length : (f g : ℕ → Option Message) (a : ℕ) → ((k : ℕ) → 1 ≤ k → k ≤ a → f k ≡ g k) → length (up_to f a) ≡ length (up_to g a)
up_to-length f g zero w = refl
up_to-length f g (suc a) w = rw (w (suc a) (omega arith) (omega arith)) (go (g (suc a)) (up_to-length f g a (λ k p h. w k p (omega arith))))
  where
    go : (o : Option Message) → length (up_to f a) ≡ length (up_to g a) → length (add o (up_to f a)) ≡ length (add o (up_to g a))
    go none e = e
    go (some m) e = ap suc e

up_to_one : (f g : ℕ → Option Message) (a k₀ : ℕ) (m : Message) → 1 ≤ k₀ → k₀ ≤ a → f k₀ ≡ none → g k₀ ≡ some m → ((k : ℕ) → k ≢ k₀ → f k ≡ g k)
    → length (up_to g a) ≡ suc (length (up_to f a))
up_to_one f g zero k₀ m p q x y w = absurd (omega arith)
up_to_one f g (suc a) k₀ m p q x y w = ⊎_elim
    (λ e. rw (subst (λ k. f k ≡ none) e x, subst (λ k. g k ≡ some m) e y) (ap suc (sym (up_to-length f g a (λ k x h. w k (λ z. absurd (omega (arith, z, e, h))))))))
    (λ h. rw (w (suc a) (λ z. absurd (omega (arith, z, h)))) (go (g (suc a)) (up_to_one f g a k₀ m p (omega arith) x y w)))
    (eq-or-lt_of_le q)
  where
    go : (o : Option Message) → length (up_to g a) ≡ suc (length (up_to f a)) → length (add o (up_to g a)) ≡ suc (length (add o (up_to f a)))
    go none e = e
    go (some m) e = ap suc e

-- ---- the law for any relation of one to one, so that it is proved once for both ends

-- what f has at k, where nothing up to b is related to it
abbrev left : (ℕ → ℕ → Bool) → (ℕ → Option Message) → ℕ → ℕ → Option Message
left P f b k = cond (some_up_to (P k) b) none (f k)

-- P relates each k to at most one l and the reverse, and where it does, both have a message or neither
record OneToOne (P : ℕ → ℕ → Bool) (f g : ℕ → Option Message) : Type 0 where
  right : (k l l' : ℕ) → T (P k l) → T (P k l') → l ≡ l'
  back : (k k' l : ℕ) → T (P k l) → T (P k' l) → k ≡ k'
  both : (k l : ℕ) → T (P k l) → (f k ≡ none) ↔ (g l ≡ none)

module _ (P : ℕ → ℕ → Bool) (f g : ℕ → Option Message) (w : OneToOne P f g) where
  -- P seen from the other end
  abbrev Q : ℕ → ℕ → Bool
  Q l k = P k l

  -- one more k that isn't related to l, or where l has no message
  same : (a l : ℕ) → (T (P (suc a) l) → g l ≡ none) → left Q g (suc a) l ≡ left Q g a l
  same a l n = go (P (suc a) l) (some_up_to (Q l) a) (g l) n
    where
      go : (t u : Bool) (o : Option Message) → (T t → o ≡ none) → cond (t || u) none o ≡ cond u none o
      go true true o n = refl
      go true false o n = sym (n tt)
      go false u o n = refl

  -- one more k that is related to l
  gone : (a l : ℕ) → T (P (suc a) l) → left Q g (suc a) l ≡ none
  gone a l t = go (P (suc a) l) t
    where
      go : (t : Bool) → T t → cond (t || some_up_to (Q l) a) none (g l) ≡ none
      go true u = refl
      go false u = absurd u

  -- before it came, l was left
  still : (a l : ℕ) → T (P (suc a) l) → left Q g a l ≡ g l
  still a l t = go (some_up_to (Q l) a) (λ u. let (k, p, q, v) = some_at (Q l) a u in let e = w.back k (suc a) l v t in omega arith)
    where
      go : (u : Bool) → ¬ T u → cond u none (g l) ≡ g l
      go true n = absurd (n tt)
      go false n = refl

  one_way : (a b : ℕ) → OneMove (f (suc a)) (some_up_to (P (suc a)) b)
      (length (up_to (left P f b) a)) (length (up_to (left Q g a) b)) (length (up_to (left P f b) (suc a))) (length (up_to (left Q g (suc a)) b))
  one_way a b = go (f (suc a)) refl (some_up_to (P (suc a)) b) (λ t. t) (λ t. t)
    where
      own : ℕ
      own = length (up_to (left P f b) a)

      go : (o : Option Message) → f (suc a) ≡ o → (t : Bool) → (T t → T (some_up_to (P (suc a)) b)) → (T (some_up_to (P (suc a)) b) → T t)
          → OneMove o t own (length (up_to (left Q g a) b)) (length (add (cond t none o) (up_to (left P f b) a))) (length (up_to (left Q g (suc a)) b))
      go none e true x y = (refl, up_to-length _ _ b (λ l p h. same a l (λ t. (w.both (suc a) l t).0 e)))
      go none e false x y = (refl, up_to-length _ _ b (λ l p h. same a l (λ t. (w.both (suc a) l t).0 e)))
      go (some m) e false x y = (refl, up_to-length _ _ b (λ l p h. same a l (λ t. absurd (y (at_some (P (suc a)) b l p h t)))))
      go (some m) e true x y =
          let (l, p, q, t) = some_at (P (suc a)) b (x tt) in
          (refl, take_one l p q t (g l) refl)
        where
          take_one : (l : ℕ) → 1 ≤ l → l ≤ b → T (P (suc a) l) → (o : Option Message) → g l ≡ o → length (up_to (left Q g a) b) ≡ suc (length (up_to (left Q g (suc a)) b))
          take_one l p q t none d = let bad = (w.both (suc a) l t).1 d in never (cc)
          take_one l p q t (some n) d = up_to_one _ _ b l n p q (gone a l t) (still a l t ∙ d)
              (λ l' n. same a l' (λ t'. absurd (n (w.right (suc a) l' l t' t))))

-- ---- the two counts of a channel

-- what state l of channel c's receiver receives is sent up to state a of its sender
abbrev pub given : Run → ℕ → ℕ → ℕ → Bool
given r c l a = some_up_to (λ k. paired r (channel r c).from k (channel r c).to l) a

module _ (r : Run) (known : Known r) (c : ℕ) where
  abbrev i : ℕ
  i = (channel r c).from

  abbrev j : ℕ
  j = (channel r c).to

  -- the state that the sender moves into sends on the channel exactly if the one that receives from it receives on the channel
  sends-receives : (k l : ℕ) → T (paired r i k j l) → (sends r c k ≡ none) ↔ (receives r c l ≡ none)
  sends-receives k l t = (
    λ e. go (receives r c l) refl e,
    λ e. back (sends r c k) refl e,
  )
    where
      p : Paired r i k j l
      p = record { same = t }

      go : (o : Option Message) → receives r c l ≡ o → sends r c k ≡ none → receives r c l ≡ none
      go none e d = e
      go (some m) e d =
          let (x, y) = receives_receive r c l m e in
          let same : (view p).received ≡ m = cc ((view p).receive, x) in
          let bad = send_sends r c k (view p).sent (view p).send ((view p).on ∙ ap (λ n. n.channel) same ∙ y) in
          never (cc (bad, d))

      back : (o : Option Message) → sends r c k ≡ o → receives r c l ≡ none → sends r c k ≡ none
      back none e d = e
      back (some m) e d =
          let (x, y) = sends_send r c k m e in
          let same : (view p).sent ≡ m = cc ((view p).send, x) in
          let bad = receive_receives r c l (view p).received (view p).receive (sym (view p).on ∙ ap (λ n. n.channel) same ∙ y) in
          never (cc (bad, d))

  one_one : OneToOne (λ k l. paired r i k j l) (sends r c) (receives r c)
  one_one = record {
    right = λ k l l' t u. (one_receive r known {i = i} {k = k} (record { same = t }) (record { same = u })).1;
    back = λ k k' l t u. (one_send r known {j = j} {l = l} (record { same = t }) (record { same = u })).1;
    both = sends-receives;
  }

  other_way : OneToOne (λ l k. paired r i k j l) (receives r c) (sends r c)
  other_way = record {
    right = λ l k k' t u. one_one.back k k' l t u;
    back = λ l l' k t u. one_one.right k l l' t u;
    both = λ l k t. let (x, y) = sends-receives k l t in (y, x);
  }

  -- the sender moves from state a to the next, the receiver stays at state b
  pub sender_move : (a b : ℕ) → OneMove (sends r c (suc a)) (arrived r i (suc a) j b)
      (length (between r c a b)) (length (ahead r c a b)) (length (between r c (suc a) b)) (length (ahead r c (suc a) b))
  unfolding between waiting ahead unsent
  sender_move a b = one_way (λ k l. paired r i k j l) (sends r c) (receives r c) one_one a b

  -- the receiver moves from state b to the next, the sender stays at state a
  pub receiver_move : (a b : ℕ) → OneMove (receives r c (suc b)) (given r c (suc b) a)
      (length (ahead r c a b)) (length (between r c a b)) (length (ahead r c a (suc b))) (length (between r c a (suc b)))
  unfolding between waiting ahead unsent
  receiver_move a b = one_way (λ l k. paired r i k j l) (receives r c) (sends r c) other_way b a

  -- whether what a receive receives is sent, told from the place of its send
  pub given_iff : {k l : ℕ} → Paired r i k j l → (a : ℕ) → T (given r c l a) ↔ (k ≤ a)
  given_iff {k} {l} p a = (
    λ t. let (k', x, y, u) = some_at (λ k. paired r i k j l) a t in let e = one_one.back k k' l p.same u in omega arith,
    λ h. at_some (λ k. paired r i k j l) a k (sent_there (view p).send).counted h p.same,
  )

  -- at first states both are empty
  pub kept_start : (a b : ℕ) → a ≤ 1 → b ≤ 1 → (length (between r c a b) ≡ 0) × (length (ahead r c a b) ≡ 0)
  unfolding between waiting ahead unsent sends receives
  kept_start a b h g = (nothing (waiting r c b) a h (go (arrived r i 1 j b) _ (first_start r known i)), nothing (unsent r c a) b g (back (given r c 1 a) _ (first_start r known j)))
    where
      nothing : (f : ℕ → Option Message) (n : ℕ) → n ≤ 1 → f 1 ≡ none → length (up_to f n) ≡ 0
      nothing f zero h e = refl
      nothing f (suc zero) h e = rw e refl
      nothing f (suc (suc n)) h e = absurd (omega arith)

      go : (t : Bool) (e : Event) → e ≡ Start → cond t none (on_channel c (sending e)) ≡ none
      go true e d = refl
      go false e d = rw d refl

      back : (t : Bool) (e : Event) → e ≡ Start → cond t none (on_channel c (receiving e)) ≡ none
      back true e d = refl
      back false e d = rw d refl

  -- at any two states: what is sent and what is received but not yet sent are together what is received and what is in transit
  pub balance : (a b : ℕ) → length (up_to (sends r c) a) + length (ahead r c a b) ≡ length (up_to (receives r c) b) + length (between r c a b)
  unfolding between ahead unsent
  balance zero b = omega (arith, up_to-length (unsent r c 0) (receives r c) b (λ l p h. refl))
  balance (suc a) b = go (sends r c (suc a)) (arrived r i (suc a) j b) (balance a b) (sender_move a b)
    where
      go : (o : Option Message) (t : Bool) → length (up_to (sends r c) a) + length (ahead r c a b) ≡ length (up_to (receives r c) b) + length (between r c a b)
          → OneMove o t (length (between r c a b)) (length (ahead r c a b)) (length (between r c (suc a) b)) (length (ahead r c (suc a) b))
          → length (add o (up_to (sends r c) a)) + length (ahead r c (suc a) b) ≡ length (up_to (receives r c) b) + length (between r c (suc a) b)
      go none t e w = omega (arith, w.0, w.1)
      go (some m) true e w = omega (arith, w.0, w.1)
      go (some m) false e w = omega (arith, w.0, w.1)
