-- A write to one part of the index leaves what the lower parts hold.
use mathlib.Core.Path.{◌≡◌, refl, sym, ◌∙◌, subst}
use mathlib.Core.Logic.{◌⊎◌}
use mathlib.Core.List.{List}
use Prim.Native.Nat.{ℕ, ◌+◌, ◌*◌, ◌≤◌, ◌<◌}
use native.Mathlib.Omega.{arith}
use lib.ListN.{get_or, set, take, length-set}
use lib.Seq.{ext_get_or, get_or-set_other, get_or-take}
use Rattle.model.specs.Run.{channel, IsState, Paired}
use Rattle.model.proofs.Pairing.{view, sent_there, received_there}
use Rattle.run.specs.Said.{run_in}
use Rattle.run.specs.Index.{partner_at, Listed, Partnered, Matched, Kept, clocks_part, partners_part}
use Rattle.run.proofs.Indexing.{counts_eight}
use Rattle.run.proofs.Listed.{listed_slot}

pub kept_all : {n : ℕ} {ix : List ℕ} → Kept n ix ix
kept_all = record { long = refl; same = λ x h. refl }

pub kept_on : {n : ℕ} {ix mid ix' : List ℕ} → Kept n ix mid → Kept n mid ix' → Kept n ix ix'
kept_on w v = record { long = v.long ∙ w.long; same = λ x h. v.same x h ∙ w.same x h }

pub kept_set : {n : ℕ} (ix : List ℕ) (x v : ℕ) → n ≤ x → Kept n ix (set ix x v)
kept_set ix x v g = record { long = length-set ix x v; same = λ y h. get_or-set_other ix x y v 0 (λ e. absurd (omega arith)) }

pub kept_less : {n m : ℕ} {ix ix' : List ℕ} → m ≤ n → Kept n ix ix' → Kept m ix ix'
kept_less g w = record { long = w.long; same = λ x h. w.same x (omega arith) }

-- the states stay where nothing below 4104 is written
pub kept_listed : {s ix ix' : List ℕ} → Kept partners_part ix ix' → Listed s ix → Listed s ix'
kept_listed {s} {ix} {ix'} k w = record {
  read = w.read;
  index = record {
    counted = counts ∙ w.index.counted;
    few = w.index.few;
    placed = λ p i l h. k.same (8 + (512 * p + i)) (omega (arith, w.index.few p l)) ∙ w.index.placed p i l h;
  };
  long = k.long ∙ w.long;
}
  where
    counts : take 8 ix' ≡ take 8 ix
    counts = ext_get_or 0 (take 8 ix') (take 8 ix) (counts_eight ix' (k.long ∙ w.long) ∙ sym (counts_eight ix w.long))
        (λ i h.
        let l : i < 8 = omega (arith, counts_eight ix' (k.long ∙ w.long)) in
        get_or-take 8 ix' i 0 l ∙ k.same i (omega arith) ∙ sym (get_or-take 8 ix i 0 l))

-- the partners stay where nothing below 8200 is written
pub kept_partnered : {s ix ix' : List ℕ} → Kept clocks_part ix ix' → Listed s ix → Partnered (run_in s) ix → Partnered (run_in s) ix'
kept_partnered {s} {ix} {ix'} k w v = record {
  sent = λ i n j l q. same i n (sent_there (view q).send) ∙ v.sent i n j l q;
  received = λ i n j l q. same j l (received_there (view q).receive) ∙ v.received i n j l q;
  backed = λ i n m e. subst (λ x. (x ≡ 0) ⊎ Paired (run_in s) i n (channel (run_in s) m.channel).to x) (sym (same i n (sent_there e))) (v.backed i n m e);
}
  where
    same : (i n : ℕ) → IsState (run_in s) i n → get_or ix' (partner_at i n) 0 ≡ get_or ix (partner_at i n) 0
    same i n t = let h = listed_slot s ix w t in k.same (partner_at i n) (omega (arith, h.process, h.counted, h.few))

pub kept_matched : {s ix ix' : List ℕ} → Kept clocks_part ix ix' → Matched s ix → Matched s ix'
kept_matched k w = record {
  listed = kept_listed (kept_less (omega arith) k) w.listed;
  known = w.known;
  partners = kept_partnered k w.listed w.partners;
}
