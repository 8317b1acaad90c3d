-- What a send has in transit, by its partner: nothing exactly if it is received up to the receiver's state.
use mathlib.Core.Path.{◌≡◌, refl, sym, ap, ◌∙◌, subst}
use mathlib.Core.Logic.{⊎_elim}
use mathlib.Core.Bool.{Bool, true, false, cond, ◌||◌}
use mathlib.Core.List.{List}
use mathlib.Core.Option.{Option, some, none}
use Prim.Native.Nat.{ℕ, ◌≤◌}
use native.Mathlib.Omega.{arith}
use lib.Dec.{T, eqb, ltb}
use lib.ListN.{get_or}
use Rattle.model.specs.declared.Message.{Message}
use Rattle.model.specs.declared.Event.TheVariants.{Send}
use Rattle.model.specs.Run.{Run, into, channel, sending, Paired}
use Rattle.model.specs.Cut.{on_channel, sends, waiting}
use Rattle.model.proofs.Messages.{arrived, arrived_at, at_arrived, sends_send}
use Rattle.model.proofs.Numbers.{none_or_past, some-up-to}
use Rattle.run.specs.Said.{run_in}
use Rattle.run.specs.Index.{partner_at, Partnered, IndexHolds}
use Rattle.transit.specs.Waiting.{as_held, inside}

pub inside-held : (o : Option Message) → inside (as_held o) ≡ o
unfolding inside as_held
inside-held none = refl
inside-held (some m) = refl

module _ (r : Run) (ix : List ℕ) (w : Partnered r ix) (c b k : ℕ) where
  abbrev i : ℕ
  i = (channel r c).from

  abbrev j : ℕ
  j = (channel r c).to

  abbrev partner : ℕ
  partner = get_or ix (partner_at i k) 0

  -- received up to state b: the partner is one of 1 to b
  pub arrived_up_to : T (arrived r i k j b) → (1 ≤ partner) × (partner ≤ b)
  arrived_up_to t = let (l, p, q, x) = arrived_at r i k j b t in let e = w.sent i k j l x in (omega (arith, e), omega (arith, e))

  pub up_to_arrived : (m : Message) → into r i k ≡ Send m → m.channel ≡ c → 1 ≤ partner → partner ≤ b → T (arrived r i k j b)
  up_to_arrived m e g p q = ⊎_elim
      (λ z. absurd (omega arith))
      (λ z. at_arrived r i k j b partner p q (subst (λ h. Paired r i k (channel r h).to partner) g z))
      (w.backed i k m e)

  still_waiting : (1 ≤ partner → partner ≤ b → ⊥) → waiting r c b k ≡ sends r c k
  unfolding waiting
  still_waiting h = go (arrived r i k j b) arrived_up_to
    where
      go : (t : Bool) → (T t → (1 ≤ partner) × (partner ≤ b)) → cond t none (sends r c k) ≡ sends r c k
      go true a = let (p, q) = a tt in absurd (h p q)
      go false a = refl

  not_waiting : 1 ≤ partner → partner ≤ b → waiting r c b k ≡ none
  unfolding waiting
  not_waiting p q = go (sends r c k) refl (arrived r i k j b) (λ m e g. up_to_arrived m e g p q)
    where
      go : (o : Option Message) → sends r c k ≡ o → (t : Bool) → ((m : Message) → into r i k ≡ Send m → m.channel ≡ c → T t) → cond t none o ≡ none
      go none e true a = refl
      go none e false a = refl
      go (some m) e true a = refl
      go (some m) e false a = let (x, g) = sends_send r c k m e in absurd (a m x g)

-- the code's test of the partner, n, of state k of the channel's sender
module _ {s ix : List ℕ} (w : IndexHolds s ix) (c from b k n : ℕ) (own : from ≡ (channel (run_in s) c).from) (is : n ≡ get_or ix (partner_at from k) 0) where
  same : n ≡ get_or ix (partner_at (channel (run_in s) c).from k) 0
  same = is ∙ ap (λ p. get_or ix (partner_at p k) 0) own

  pub waits_still : (eqb n 0 || ltb b n) ≡ true → waiting (run_in s) c b k ≡ on_channel c (sending (into (run_in s) from k))
  unfolding sends
  waits_still e =
      still_waiting (run_in s) ix w.partners c b k (subst (λ n. 1 ≤ n → n ≤ b → ⊥) same (none_or_past n b e))
      ∙ ap (λ p. on_channel c (sending (into (run_in s) p k))) (sym own)

  pub waits_not : (eqb n 0 || ltb b n) ≡ false → waiting (run_in s) c b k ≡ none
  waits_not e =
      let (x, y) = some-up-to n b e in
      not_waiting (run_in s) ix w.partners c b k (subst (λ n. 1 ≤ n) same x) (subst (λ n. n ≤ b) same y)
