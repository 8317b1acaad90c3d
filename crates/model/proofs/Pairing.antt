-- The laws of pairing, on which all else rests: a receive has one send, a send at most one receive, and the two ends are the channel's.
use mathlib.Core.Path.{◌≡◌, refl, sym, ap, ◌∙◌}
use mathlib.Core.Logic.{⊎_elim, ◌≢◌}
use mathlib.Core.List.{List, []}
use Prim.Native.Nat.{ℕ, zero, suc, ◌≤◌, ◌<◌}
use native.Mathlib.Omega.{arith}
use lib.Dec.{T, eqb, eqb→eq}
use lib.ListN.{length, get_or-eq_default}
use Rattle.model.proofs.Numbers.{never}
use Rattle.model.specs.declared.Message.{Message}
use Rattle.model.specs.declared.Event.{Event}
use Rattle.model.specs.declared.Event.TheVariants.{Start, Internal, Send, Receive}
use Rattle.model.specs.Run.{Run, State, nth, no_state, history, state, into, channel, count, processes, IsState, sending, receiving, same_message, paired, Paired}
use Rattle.model.specs.Known.{Sides, Known}
use Rattle.model.proofs.Lists.{le_or_lt, eq→eqb, and_T, T_and}

-- ---- where there is no start, there is a state

pub nth_there : (h : List State) (k : ℕ) → (nth h k).event ≢ Start → (1 ≤ k) × (k ≤ length h)
nth_there h zero n = absurd (n refl)
nth_there h (suc k) n = ⊎_elim (λ g. (omega arith, g))
    (λ g. absurd (n (ap (λ s. s.event) (get_or-eq_default h no_state (omega arith))))) (le_or_lt (suc k) (length h))

pub send_start : {m : Message} → Send m ≢ Start
send_start e = never (cc)

pub receive_start : {m : Message} → Receive m ≢ Start
receive_start e = never (cc)

module _ {r : Run} where
  there : {i k : ℕ} → into r i k ≢ Start → IsState r i k
  unfolding into state
  there {i} {k} n = let t = nth_there (history r i) k n in record { counted = t.0; there = t.1 }

  pub sent_there : {i k : ℕ} {m : Message} → into r i k ≡ Send m → IsState r i k
  sent_there e = there (λ z. send_start (sym e ∙ z))

  pub received_there : {i k : ℕ} {m : Message} → into r i k ≡ Receive m → IsState r i k
  received_there e = there (λ z. receive_start (sym e ∙ z))

  pub process_there : {i k : ℕ} → IsState r i k → i < processes r
  process_there {i} {k} s = ⊎_elim (λ g. g)
      (λ g. absurd (omega (arith, s.counted, s.there, ap length (get_or-eq_default r.histories [] {n = i} (omega arith)))))
      (le_or_lt (suc i) (processes r))

-- ---- a pair taken apart

pub record Pair (r : Run) (i k j l : ℕ) : Type 0 where
  pub sent : Message
  pub received : Message
  pub send : into r i k ≡ Send sent
  pub receive : into r j l ≡ Receive received
  pub on : sent.channel ≡ received.channel
  pub number : sent.number ≡ received.number

module _ {r : Run} {i k j l : ℕ} where
  pub view : Paired r i k j l → Pair r i k j l
  unfolding paired
  view p = go (into r i k) refl (into r j l) refl p.same
    where
      go : (e : Event) → into r i k ≡ e → (g : Event) → into r j l ≡ g → T (same_message (sending e) (receiving g)) → Pair r i k j l
      go Start a g b t = absurd t
      go Internal a g b t = absurd t
      go (Receive m) a g b t = absurd t
      go (Send m) a Start b t = absurd t
      go (Send m) a Internal b t = absurd t
      go (Send m) a (Send n) b t = absurd t
      go (Send m) a (Receive n) b t =
          let (x, y) = and_T (eqb m.channel n.channel) (eqb m.number n.number) t in
          record { sent = m; received = n; send = a; receive = b; on = eqb→eq m.channel n.channel x; number = eqb→eq m.number n.number y }

  pub pair : Pair r i k j l → Paired r i k j l
  unfolding paired
  pair p =
      let m = p.sent in
      let n = p.received in
      let same = T_and (eqb m.channel n.channel) (eqb m.number n.number) (eq→eqb m.channel n.channel p.on) (eq→eqb m.number n.number p.number) in
      record { same = rw (p.send, p.receive) same }

-- ---- the laws

-- the two ends of a pair are the ends of its channel
module _ (r : Run) (sides : Sides r) where
  pub from_side : {i k j l : ℕ} (p : Pair r i k j l) → (channel r p.received.channel).from ≡ i
  from_side {i} {k} p = ap (λ c. (channel r c).from) (sym p.on) ∙ (sides.sender i k p.sent p.send).1

  pub to_side : {i k j l : ℕ} (p : Pair r i k j l) → (channel r p.received.channel).to ≡ j
  to_side {j = j} {l} p = (sides.receiver j l p.received p.receive).1

module _ (r : Run) (known : Known r) where
  -- the first state of a process is a start
  pub first_start : (i : ℕ) → into r i 1 ≡ Start
  unfolding into state
  first_start i = ⊎_elim
      (λ (h : 1 ≤ count r i). (known.sides.starts i 1 (record { counted = omega arith; there = h })).1 refl)
      (λ h. ap (λ s. s.event) (get_or-eq_default (history r i) no_state {n = 0} (omega arith)))
      (le_or_lt 1 (count r i))

  -- a send is never into a first state
  pub sent_later : {i k j l : ℕ} → Paired r i k j l → 2 ≤ k
  sent_later {i} {k} p =
      let s : IsState r i k = sent_there (view p).send in
      ⊎_elim
      (λ h. h)
      (λ h. let e : k ≡ 1 = omega (arith, s.counted) in absurd (send_start (sym (view p).send ∙ ap (into r i) e ∙ first_start i)))
      (le_or_lt 2 k)

  pub from_end : {i k j l : ℕ} (p : Pair r i k j l) → (channel r p.received.channel).from ≡ i
  from_end p = from_side r known.sides p

  pub to_end : {i k j l : ℕ} (p : Pair r i k j l) → (channel r p.received.channel).to ≡ j
  to_end p = to_side r known.sides p

  -- they differ
  pub apart : {i k j l : ℕ} → Paired r i k j l → i ≢ j
  apart {i} {k} {j} {l} q e =
      let p = view q in
      (known.sides.ends p.received.channel (known.sides.receiver j l p.received p.receive).0).2 (from_end p ∙ e ∙ sym (to_end p))

  -- a receive has one send
  pub one_send : {i k i' k' j l : ℕ} → Paired r i k j l → Paired r i' k' j l → (i ≡ i') × (k ≡ k')
  one_send {i} {k} {i'} {k'} {j} {l} p' q' =
      let p = view p' in
      let q = view q' in
      let same : p.received ≡ q.received = cc (p.receive, q.receive) in
      let from : i ≡ i' = sym (from_end p) ∙ ap (λ m. (channel r m.channel).from) same ∙ from_end q in (
        from,
        known.once i k k' p.sent q.sent p.send (rw from q.send)
            (p.on ∙ ap (λ m. m.channel) same ∙ sym q.on) (p.number ∙ ap (λ m. m.number) same ∙ sym q.number),
      )

  -- a send has at most one receive
  pub one_receive : {i k j l j' l' : ℕ} → Paired r i k j l → Paired r i k j' l' → (j ≡ j') × (l ≡ l')
  one_receive {i} {k} {j} {l} {j'} {l'} p' q' =
      let p = view p' in
      let q = view q' in
      let same : p.sent ≡ q.sent = cc (p.send, q.send) in
      let on : p.received.channel ≡ q.received.channel = sym p.on ∙ ap (λ m. m.channel) same ∙ q.on in
      let to : j ≡ j' = sym (to_end p) ∙ ap (λ c. (channel r c).to) on ∙ to_end q in (
        to,
        known.taken j l l' p.received q.received p.receive (rw to q.receive)
            on (sym p.number ∙ ap (λ m. m.number) same ∙ q.number),
      )
