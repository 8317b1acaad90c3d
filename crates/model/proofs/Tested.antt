-- A test that computes for what an accepted run is known to obey: for runs that are written out, as in Desks.
use mathlib.Core.Path.{◌≡◌, refl, ap, subst}
use mathlib.Core.Logic.{⊎_elim, ◌↔◌}
use mathlib.Core.Bool.{Bool, not, ◌&&◌, ◌||◌}
use mathlib.Core.Option.{Option, some}
use Prim.Native.Nat.{ℕ, zero, suc, ◌<◌}
use native.Mathlib.Omega.{arith}
use lib.Dec.{T, T_not, eqb, ltb, eqb→eq, ltb→lt}
use lib.ListN.{length}
use Rattle.model.proofs.Numbers.{never}
use Rattle.model.specs.declared.Message.{Message}
use Rattle.model.specs.declared.Event.{Event}
use Rattle.model.specs.declared.Event.TheVariants.{Start, Internal, Send, Receive}
use Rattle.model.specs.Run.{Run, into, channel, processes, count, IsState, sending, receiving, same_message, paired}
use Rattle.model.specs.Known.{Known}
use Rattle.model.specs.Cut.{some_up_to}
use Rattle.model.proofs.Lists.{eq→eqb, and_T, T_and, or_T, every_below, every-below, some_at}
use Rattle.model.proofs.Pairing.{sent_there, received_there, process_there}

-- no other state of process i sends, or receives, what its state k does
abbrev once? : Run → (Event → Option Message) → ℕ → ℕ → Bool
once? r f i k = every_below (λ k'. not (same_message (f (into r i k)) (f (into r i (suc k')))) || eqb k (suc k')) (count r i)

-- what led into state k of process i fits the run
abbrev fits : Run → ℕ → ℕ → Event → Bool
fits r i k Start = eqb k 1
fits r i k Internal = not (eqb k 1)
fits r i k (Send m) =
    not (eqb k 1) && (ltb m.channel (length r.channels) && (eqb (channel r m.channel).from i && once? r sending i k))
fits r i k (Receive m) =
    let s = (channel r m.channel).from in
    not (eqb k 1) && (ltb m.channel (length r.channels) && (eqb (channel r m.channel).to i
    && (once? r receiving i k && some_up_to (λ k'. paired r s k' i k) (count r s))))

abbrev ends? : Run → ℕ → Bool
ends? r c = ltb (channel r c).from (processes r) && (ltb (channel r c).to (processes r) && not (eqb (channel r c).from (channel r c).to))

abbrev states? : Run → ℕ → Bool
states? r i = ltb 0 (count r i) && every_below (λ k. fits r i (suc k) (into r i (suc k))) (count r i)

abbrev pub known? : Run → Bool
known? r = every_below (states? r) (processes r) && every_below (ends? r) (length r.channels)

module _ (r : Run) (t : T (known? r)) where
  process : (i : ℕ) → i < processes r → T (ltb 0 (count r i)) × T (every_below (λ k. fits r i (suc k) (into r i (suc k))) (count r i))
  process i p = and_T (ltb 0 (count r i)) _ (every-below (states? r) (processes r) (and_T (every_below (states? r) (processes r)) _ t).0 i p)

  fit : (i k : ℕ) (e : Event) → into r i k ≡ e → IsState r i k → T (fits r i k e)
  fit i zero e g s = absurd (omega (arith, s.counted))
  fit i (suc k) e g s = subst (λ e. T (fits r i (suc k) e)) g (every-below (λ k. fits r i (suc k) (into r i (suc k))) (count r i) (process i (process_there s)).1 k s.there)

  start : (i k : ℕ) (e : Event) → T (fits r i k e) → (e ≡ Start) ↔ (k ≡ 1)
  start i k Start u = (λ h. eqb→eq k 1 u, λ h. refl)
  start i k Internal u = (λ h. never (cc), λ h. absurd (T_not (eqb k 1) u (eq→eqb k 1 h)))
  start i k (Send m) u = (λ h. never (cc), λ h. absurd (T_not (eqb k 1) (and_T (not (eqb k 1)) _ u).0 (eq→eqb k 1 h)))
  start i k (Receive m) u = (λ h. never (cc), λ h. absurd (T_not (eqb k 1) (and_T (not (eqb k 1)) _ u).0 (eq→eqb k 1 h)))

  sends : (i k : ℕ) (m : Message) → into r i k ≡ Send m → (m.channel < length r.channels) × ((channel r m.channel).from ≡ i) × T (once? r sending i k)
  sends i k m e =
      let (a, b) = and_T (not (eqb k 1)) _ (fit i k (Send m) e (sent_there e)) in
      let (x, y) = and_T (ltb m.channel (length r.channels)) _ b in
      let (u, v) = and_T (eqb (channel r m.channel).from i) _ y in
      (ltb→lt m.channel (length r.channels) x, eqb→eq (channel r m.channel).from i u, v)

  receives : (j l : ℕ) (m : Message) → into r j l ≡ Receive m → (m.channel < length r.channels) × ((channel r m.channel).to ≡ j) × T (once? r receiving j l)
      × T (some_up_to (λ k. paired r (channel r m.channel).from k j l) (count r (channel r m.channel).from))
  receives j l m e =
      let (a, b) = and_T (not (eqb l 1)) _ (fit j l (Receive m) e (received_there e)) in
      let (x, y) = and_T (ltb m.channel (length r.channels)) _ b in
      let (u, v) = and_T (eqb (channel r m.channel).to j) _ y in
      let (w, z) = and_T (once? r receiving j l) _ v in
      (ltb→lt m.channel (length r.channels) x, eqb→eq (channel r m.channel).to j u, w, z)

  only : (f : Event → Option Message) (i k k' : ℕ) (m m' : Message) → T (once? r f i k) → IsState r i k' → f (into r i k) ≡ some m → f (into r i k') ≡ some m'
      → m.channel ≡ m'.channel → m.number ≡ m'.number → k ≡ k'
  only f i k zero m m' u s e e' x y = absurd (omega (arith, s.counted))
  only f i k (suc k') m m' u s e e' x y = ⊎_elim
      (λ v. absurd (T_not (same_message (f (into r i k)) (f (into r i (suc k')))) v
      (rw (e, e') (T_and (eqb m.channel m'.channel) (eqb m.number m'.number) (eq→eqb m.channel m'.channel x) (eq→eqb m.number m'.number y)))))
      (λ v. eqb→eq k (suc k') v)
      (or_T (not (same_message (f (into r i k)) (f (into r i (suc k'))))) (eqb k (suc k'))
      (every-below (λ k'. not (same_message (f (into r i k)) (f (into r i (suc k')))) || eqb k (suc k')) (count r i) u k' s.there))

  pub known_test : Known r
  known_test = record {
    sides = record {
      peopled = λ i p. ltb→lt 0 (count r i) (process i p).0;
      starts = λ i k s. start i k (into r i k) (fit i k (into r i k) refl s);
      ends = λ c p.
          let (a, b) = and_T (ltb (channel r c).from (processes r)) _ (every-below (ends? r) (length r.channels) (and_T (every_below (states? r) (processes r)) _ t).1 c p) in
          let (x, y) = and_T (ltb (channel r c).to (processes r)) _ b in (
            ltb→lt (channel r c).from (processes r) a,
            ltb→lt (channel r c).to (processes r) x,
            λ e. T_not (eqb (channel r c).from (channel r c).to) y (eq→eqb (channel r c).from (channel r c).to e),
          );
      sender = λ i k m e. let (a, b, c) = sends i k m e in (a, b);
      receiver = λ j l m e. let (a, b, c, d) = receives j l m e in (a, b);
    };
    once = λ i k k' m m' e e' x y. only sending i k k' m m' (sends i k m e).2 (sent_there e') (ap sending e) (ap sending e') x y;
    taken = λ j l l' m m' e e' x y. only receiving j l l' m m' (receives j l m e).2 (received_there e') (ap receiving e) (ap receiving e') x y;
    origin = λ j l m e.
        let s = (channel r m.channel).from in
        let (k, p, q, u) = some_at (λ k. paired r s k j l) (count r s) (receives j l m e).3 in
        (s, k, record { same = u });
  }
