-- Both counts at a cut at which a process moves one state; and a cut is consistent exactly if nothing is received that isn't sent.
use mathlib.Core.Path.{◌≡◌, refl, sym, ap, ◌∙◌, subst}
use mathlib.Core.Logic.{⊎_elim, ◌≢◌}
use mathlib.Core.Bool.{Bool, true, false, cond}
use mathlib.Core.List.{List, []}
use mathlib.Core.Option.{Option, some, none}
use Prim.Native.Nat.{ℕ, zero, suc, ◌+◌, ◌≤◌, ◌<◌}
use native.Mathlib.Nat.{eq-or-lt_of_le}
use native.Mathlib.Decide.{ℕ_discrete}
use native.Mathlib.Numerals.{add-one}
use native.Mathlib.Omega.{arith}
use lib.Dec.{T}
use lib.ListN.{length}
use lib.Seq.{get_or-set_same, get_or-set_other}
use Rattle.model.proofs.Numbers.{never}
use Rattle.model.specs.declared.Message.{Message}
use Rattle.model.specs.declared.Event.TheVariants.{Send, Receive}
use Rattle.model.specs.Run.{Run, processes, into, channel, paired, Paired}
use Rattle.model.specs.Known.{Known}
use Rattle.model.specs.Cut.{at, IsCut, Consistent, sends, some_up_to, add, up_to, in_transit}
use Rattle.model.specs.Sent.{ByMessage, receives}
use Rattle.model.specs.NotYetSent.{unsent, ahead, not_yet_sent, move_on, OneMove}
use Rattle.model.proofs.Lists.{some_at}
use Rattle.model.proofs.Pairing.{view, received_there, from_end}
use Rattle.model.proofs.Messages.{arrived, sends_send, receives_receive, receive_receives}
use Rattle.model.proofs.Order.{consistent_by_message}
use Rattle.model.proofs.OneMove.{given, sender_move, receiver_move, given_iff}

-- ---- a cut at which process p moves one state, and a channel of the run

module _ (r : Run) (known : Known r) (cut : List ℕ) (is : IsCut r cut) (p : ℕ) (there : p < processes r) (c : ℕ) (named : c < length r.channels) where
  apart : (channel r c).from ≢ (channel r c).to
  apart = (known.sides.ends c named).2

  -- the state that p moves into
  abbrev next : ℕ
  next = at cut p + 1

  here : at (move_on cut p) p ≡ next
  here = get_or-set_same cut p next 0 (omega (arith, is.size))

  stays : (q : ℕ) → q ≢ p → at (move_on cut p) q ≡ at cut q
  stays q n = get_or-set_other cut p q next 0 n

  -- p is the channel's sender
  pub kept_sender : (channel r c).from ≡ p → OneMove (sends r c next) (arrived r (channel r c).from next (channel r c).to (at cut (channel r c).to))
      (length (in_transit r cut c)) (length (not_yet_sent r cut c)) (length (in_transit r (move_on cut p) c)) (length (not_yet_sent r (move_on cut p) c))
  unfolding in_transit not_yet_sent
  kept_sender e =
      rw (ap (at (move_on cut p)) e ∙ here, ap (at cut) e, stays (channel r c).to (λ z. apart (e ∙ sym z))) (rw (← add-one) at (sender_move r known c (at cut p) (at cut (channel r c).to)))

  -- p is the channel's receiver
  pub kept_receiver : (channel r c).to ≡ p → OneMove (receives r c next) (given r c next (at cut (channel r c).from))
      (length (not_yet_sent r cut c)) (length (in_transit r cut c)) (length (not_yet_sent r (move_on cut p) c)) (length (in_transit r (move_on cut p) c))
  unfolding in_transit not_yet_sent
  kept_receiver e =
      rw (ap (at (move_on cut p)) e ∙ here, ap (at cut) e, stays (channel r c).from (λ z. apart (z ∙ sym e))) (rw (← add-one) at (receiver_move r known c (at cut (channel r c).from) (at cut p)))

  -- p is at neither end
  kept_other : (channel r c).from ≢ p → (channel r c).to ≢ p
      → (length (in_transit r (move_on cut p) c) ≡ length (in_transit r cut c)) × (length (not_yet_sent r (move_on cut p) c) ≡ length (not_yet_sent r cut c))
  unfolding in_transit not_yet_sent
  kept_other x y = rw (stays (channel r c).from x, stays (channel r c).to y) (refl, refl)

  -- the event has no message on the channel: both counts stay
  pub kept_still : ((m : Message) → into r p next ≡ Send m → m.channel ≢ c) → ((m : Message) → into r p next ≡ Receive m → m.channel ≢ c)
      → (length (in_transit r (move_on cut p) c) ≡ length (in_transit r cut c)) × (length (not_yet_sent r (move_on cut p) c) ≡ length (not_yet_sent r cut c))
  kept_still x y = elim (ℕ_discrete (channel r c).from p) [
    | yes e ↦ rw (no-send (sends r c next) e refl) at (kept_sender e)
    | no n ↦ elim (ℕ_discrete (channel r c).to p) [
      | yes e ↦ let w = rw (no_receive (receives r c next) e refl) at (kept_receiver e) in (w.1, w.0)
      | no z ↦ kept_other n z
    ]
  ]
    where
      no-send : (o : Option Message) → (channel r c).from ≡ p → sends r c next ≡ o → sends r c next ≡ none
      no-send none e d = d
      no-send (some m) e d =
          let (a, b) = sends_send r c next m d in
          absurd (x m (subst (λ q. into r q next ≡ Send m) e a) b)

      no_receive : (o : Option Message) → (channel r c).to ≡ p → receives r c next ≡ o → receives r c next ≡ none
      no_receive none e d = d
      no_receive (some m) e d =
          let (a, b) = receives_receive r c next m d in
          absurd (y m (subst (λ q. into r q next ≡ Receive m) e a) b)

-- ---- consistent exactly if nothing is received that isn't sent

up_to_none : (f : ℕ → Option Message) (b : ℕ) → ((l : ℕ) → 1 ≤ l → l ≤ b → f l ≡ none) → up_to f b ≡ []
up_to_none f zero w = refl
up_to_none f (suc b) w = rw (w (suc b) (omega arith) (omega arith)) (up_to_none f b (λ l p h. w l p (omega arith)))

none_up_to : (f : ℕ → Option Message) (b : ℕ) → up_to f b ≡ [] → (l : ℕ) → 1 ≤ l → l ≤ b → f l ≡ none
none_up_to f zero e l p h = absurd (omega arith)
none_up_to f (suc b) e l p h = go (f (suc b)) refl e (none_up_to f b)
  where
    go : (o : Option Message) → f (suc b) ≡ o → add o (up_to f b) ≡ [] → (up_to f b ≡ [] → (l : ℕ) → 1 ≤ l → l ≤ b → f l ≡ none) → f l ≡ none
    go none d e rest = ⊎_elim (λ (z : l ≡ suc b). rw z d) (λ z. rest e l p (omega arith)) (eq-or-lt_of_le h)
    go (some m) d e rest = never (cc)

module _ (r : Run) (known : Known r) (cut : List ℕ) (is : IsCut r cut) where
  pub consistent_none_unsent : Consistent r cut → (c : ℕ) → not_yet_sent r cut c ≡ []
  unfolding not_yet_sent ahead unsent ByMessage
  consistent_none_unsent ok c = up_to_none _ (at cut (channel r c).to) (λ l p h. go l h (receives r c l) refl)
    where
      i : ℕ
      i = (channel r c).from

      j : ℕ
      j = (channel r c).to

      none_of : (t : Bool) → cond {A = Option Message} t none none ≡ none
      none_of true = refl
      none_of false = refl

      drop : (t : Bool) (o : Option Message) → T t → cond t none o ≡ none
      drop true o u = refl
      drop false o u = absurd u

      go : (l : ℕ) → l ≤ at cut j → (o : Option Message) → receives r c l ≡ o → cond (some_up_to (λ k. paired r i k j l) (at cut i)) none o ≡ none
      go l h none e = none_of (given r c l (at cut i))
      go l h (some m) e =
          let (x, y) = receives_receive r c l m e in
          let (i', k, p, z) = (consistent_by_message r known cut is).0 ok j l m h x in
          let same : (view p).received ≡ m = cc ((view p).receive, x) in
          let from : i ≡ i' = ap (λ d. (channel r d).from) (sym y ∙ ap (λ n. n.channel) (sym same)) ∙ from_end r known (view p) in
          drop (given r c l (at cut i)) (some m) ((given_iff r known c (subst (λ x. Paired r x k j l) (sym from) p) (at cut i)).1 (subst (λ x. k ≤ at cut x) (sym from) z))

  pub none_unsent_consistent : ((c : ℕ) → not_yet_sent r cut c ≡ []) → Consistent r cut
  unfolding not_yet_sent ahead unsent ByMessage
  none_unsent_consistent w = (consistent_by_message r known cut is).1 (λ j l m h e.
      let c = m.channel in
      let to : (channel r c).to ≡ j = (known.sides.receiver j l m e).1 in
      let e' : into r (channel r c).to l ≡ Receive m = subst (λ x. into r x l ≡ Receive m) (sym to) e in
      let h' : l ≤ at cut (channel r c).to = subst (λ x. l ≤ at cut x) (sym to) h in
      let empty = none_up_to (unsent r c (at cut (channel r c).from)) (at cut (channel r c).to) (w c) l (received_there e').counted h' in
      let (k, p, q, u) = some_at (λ k. paired r (channel r c).from k (channel r c).to l) (at cut (channel r c).from) (found (given r c l (at cut (channel r c).from)) m (subst (λ o. cond (given r c l (at cut (channel r c).from)) none o ≡ none) (receive_receives r c l m e' refl) empty)) in
      ((channel r c).from, k, subst (λ x. Paired r (channel r c).from k x l) to (record { same = u }), q))
    where
      found : (t : Bool) (m : Message) → cond t none (some m) ≡ none → T t
      found true m e = tt
      found false m e = never (cc)
