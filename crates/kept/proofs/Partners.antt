-- Whether the other end of a message is in, told from the partner that the index has: of a send by the index's promise, of a receive by its one send.
use mathlib.Core.Path.{◌≡◌, refl, sym, ap, ◌∙◌, subst}
use mathlib.Core.Bool.{not, ◌||◌}
use mathlib.Core.List.{List}
use Prim.Native.Nat.{ℕ}
use native.Mathlib.Omega.{arith}
use lib.Dec.{eqb, ltb}
use lib.ListN.{get_or}
use Rattle.model.specs.declared.Message.{Message}
use Rattle.model.specs.declared.Event.TheVariants.{Send, Receive}
use Rattle.model.specs.Run.{Run, into, channel, Paired}
use Rattle.model.specs.Known.{Known}
use Rattle.model.proofs.Numbers.{up_to_test}
use Rattle.model.proofs.Pairing.{view, sent_there, from_end}
use Rattle.model.proofs.Messages.{arrived}
use Rattle.model.proofs.OneMove.{given, given_iff}
use Rattle.run.specs.Index.{partner_at, Partnered}
use Rattle.transit.proofs.Partner.{arrived_up_to, up_to_arrived}

module _ (r : Run) (known : Known r) (ix : List ℕ) (w : Partnered r ix) (p k : ℕ) (m : Message) where
  abbrev c : ℕ
  c = m.channel

  abbrev partner : ℕ
  partner = get_or ix (partner_at p k) 0

  -- what p sends into state k is received up to state b
  pub sent_past : into r p k ≡ Send m → (b : ℕ) → arrived r (channel r c).from k (channel r c).to b ≡ not (eqb partner 0 || ltb b partner)
  sent_past e b =
      let own : (channel r c).from ≡ p = (known.sides.sender p k m e).1 in
      let there = subst (λ q. into r q k ≡ Send m) (sym own) e in
      subst (λ q. arrived r (channel r c).from k (channel r c).to b ≡ not (eqb (get_or ix (partner_at q k) 0) 0 || ltb b (get_or ix (partner_at q k) 0))) own
      (up_to_test _ b (arrived_up_to r ix w c b k) (up_to_arrived r ix w c b k m there refl))

  -- what p receives into state k is sent up to state a
  pub received_past : into r p k ≡ Receive m → (a : ℕ) → given r c k a ≡ not (eqb partner 0 || ltb a partner)
  received_past e a =
      let (i, n, q) = known.origin p k m e in
      let same : (view q).received ≡ m = cc ((view q).receive, e) in
      let from : (channel r c).from ≡ i = ap (λ m. (channel r m.channel).from) (sym same) ∙ from_end r known (view q) in
      let to : (channel r c).to ≡ p = (known.sides.receiver p k m e).1 in
      let is : partner ≡ n = w.received i n p k q in
      let pair : Paired r (channel r c).from n (channel r c).to k = subst (λ x. Paired r x n (channel r c).to k) (sym from) (subst (λ y. Paired r i n y k) (sym to) q) in
      let (x, y) = given_iff r known c pair a in
      up_to_test partner a (λ t. (omega (arith, is, (sent_there (view q).send).counted), omega (arith, is, x t))) (λ g h. y (omega (arith, is, h)))
