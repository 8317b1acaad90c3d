-- Nothing past the cut counts: two runs that agree up to the first cut of one have the same first cut.
use mathlib.Core.Path.{◌≡◌, refl, sym, ap, ◌∙◌, subst}
use mathlib.Core.Bool.{cond}
use mathlib.Core.List.{List}
use mathlib.Core.Option.{Option, none}
use Prim.Native.Nat.{ℕ, zero, suc, ◌≤◌}
use native.Mathlib.Omega.{arith}
use lib.IntN.{pos}
use lib.Dec.{T}
use lib.ListN.{length, get_or, take, length-take}
use lib.Seq.{take-take, get_or-take}
use Rattle.model.specs.declared.Message.{Message}
use Rattle.model.specs.Run.{Run, State, no_state, nth, state, into, history, channel, sending, paired}
use Rattle.model.specs.Known.{Known}
use Rattle.model.specs.Cut.{at, IsCut, on_channel, sends, waiting, up_to, between, in_transit}
use Rattle.model.specs.Sent.{ByMessage}
use Rattle.model.specs.Same.{SameUpTo}
use Rattle.model.specs.Clause.{holds, compares, passes, Clause, Satisfies, First}
use Rattle.model.specs.Linear.{Linear}
use Rattle.model.specs.Clause.Clause.{local, on}
use Rattle.model.proofs.Order.{consistent_by_message}
use Rattle.model.proofs.Lattice.{lower, at_lower, lower_satisfies}
use Rattle.model.proofs.Messages.{arrived}

same_sym : {cut : List ℕ} {r s : Run} → SameUpTo cut r s → SameUpTo cut s r
same_sym w = record { channels = sym w.channels; processes = sym w.processes; states = λ i. sym (w.states i) }

same_below : {cut d : List ℕ} {r s : Run} → ((i : ℕ) → at d i ≤ at cut i) → SameUpTo cut r s → SameUpTo d r s
same_below {cut} {d} {r} {s} h w = record {
  channels = w.channels;
  processes = w.processes;
  states = λ i. sym (take-take (at d i) (at cut i) (history r i) (h i)) ∙ ap (take (at d i)) (w.states i) ∙ take-take (at d i) (at cut i) (history s i) (h i);
}

nth-take : (h : List State) (n k : ℕ) → k ≤ n → nth (take n h) k ≡ nth h k
nth-take h n zero p = refl
nth-take h n (suc k) p = get_or-take n h k no_state p

up_to_same : (f g : ℕ → Option Message) (a : ℕ) → ((k : ℕ) → k ≤ a → f k ≡ g k) → up_to f a ≡ up_to g a
up_to_same f g zero w = refl
up_to_same f g (suc a) w = rw (w (suc a) (omega arith), up_to_same f g a (λ k h. w k (omega arith)))

module _ {cut : List ℕ} {r s : Run} (w : SameUpTo cut r s) where
  state_same : (i k : ℕ) → k ≤ at cut i → state r i k ≡ state s i k
  unfolding state
  state_same i k h = sym (nth-take (history r i) (at cut i) k h) ∙ ap (λ g. nth g k) (w.states i) ∙ nth-take (history s i) (at cut i) k h

  into_same : (i k : ℕ) → k ≤ at cut i → into r i k ≡ into s i k
  unfolding into
  into_same i k h = ap (λ z. z.event) (state_same i k h)

  paired_same : (i k j l : ℕ) → k ≤ at cut i → l ≤ at cut j → paired r i k j l ≡ paired s i k j l
  unfolding paired
  paired_same i k j l h g = rw (into_same i k h, into_same j l g)

  arrived_same : (i k j b : ℕ) → k ≤ at cut i → b ≤ at cut j → arrived r i k j b ≡ arrived s i k j b
  arrived_same i k j zero h g = refl
  arrived_same i k j (suc b) h g = rw (paired_same i k j (suc b) h g, arrived_same i k j b h (omega arith))

  channel_same : (c : ℕ) → channel r c ≡ channel s c
  channel_same c = ap (λ cs. get_or cs c (record { from = 0; to = 0 })) w.channels

  waiting_same : (c k : ℕ) → k ≤ at cut (channel s c).from → waiting r c (at cut (channel s c).to) k ≡ waiting s c (at cut (channel s c).to) k
  unfolding waiting sends
  waiting_same c k h =
      let b = at cut (channel s c).to in
      ap (λ d. cond (arrived r d.from k d.to b) none (on_channel c (sending (into r d.from k)))) (channel_same c)
      ∙ rw (into_same (channel s c).from k h, arrived_same (channel s c).from k (channel s c).to b h (omega arith))

  transit_same : (c : ℕ) → in_transit r cut c ≡ in_transit s cut c
  unfolding in_transit between
  transit_same c =
      ap (λ d. up_to (waiting r c (at cut d.to)) (at cut d.from)) (channel_same c)
      ∙ up_to_same _ _ (at cut (channel s c).from) (waiting_same c)

  cut_same : IsCut r cut → IsCut s cut
  cut_same c = record {
    size = c.size ∙ w.processes;
    states = λ i p.
        let z = c.states i (omega (arith, w.processes)) in record {
          counted = z.counted;
          there = omega (arith, z.there, length-take (at cut i) (history r i), length-take (at cut i) (history s i), ap length (w.states i));
        };
  }

  message_same : ByMessage r cut → ByMessage s cut
  unfolding ByMessage
  message_same ok j l m h e =
      let (i, k, p, g) = ok j l m h (into_same j l h ∙ e) in
      (i, k, record { same = subst T (paired_same i k j l g h) p.same }, g)

  holds_same : (k : Clause) → T (holds r cut k) → T (holds s cut k)
  unfolding holds
  holds_same (local i v o x) t = subst (λ z. T (compares o (get_or z.values v (pos 0)) x)) (state_same i (at cut i) (omega arith)) t
  holds_same (on c k) t = subst (λ ms. T (passes k ms)) (transit_same c) t

  satisfies_same : Known r → Known s → {cond : List Clause} → Satisfies r cond cut → Satisfies s cond cut
  satisfies_same p q x =
      let c = cut_same x.is_cut in record {
        is_cut = c;
        consistent = (consistent_by_message s q cut c).1 (message_same ((consistent_by_message r p cut x.is_cut).0 x.consistent));
        clauses = λ k m. holds_same k (x.clauses k m);
      }

pub nothing_past : {r s : Run} {cond : List Clause} {c : List ℕ} → Known r → Known s → Linear cond → SameUpTo c r s → First r cond c → First s cond c
nothing_past {r} {s} {cond} {c} p q linear w x =
    let here = satisfies_same w p q x.satisfies in record {
      satisfies = here;
      least = λ d y i.
          let low : (i : ℕ) → at (lower c d) i ≤ at c i = λ i. omega (arith, at_lower c d i) in
          let both = lower_satisfies q linear here y in
          omega (arith, at_lower c d i, x.least (lower c d) (satisfies_same (same_below low (same_sym w)) q p both) i);
    }
