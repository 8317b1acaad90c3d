-- What follows from a run's acceptance alone: it is known to the model, and its pairing has no fault exactly if it is.
use Rattle.std.proofs.Common.{Result, Ok}
use Rattle.record.specs.declared.Refusal.{Refusal}
use mathlib.Core.Path.{◌≡◌, refl, sym, ap, ◌∙◌, subst}
use mathlib.Core.Bool.{Bool, true, false}
use mathlib.Core.List.{List}
use Prim.Native.Nat.{ℕ}
use native.Mathlib.Omega.{arith}
use lib.Dec.{T}
use Rattle.model.proofs.Numbers.{never}
use Rattle.model.specs.declared.Message.{Message}
use Rattle.model.specs.declared.Event.TheVariants.{Receive}
use Rattle.model.specs.Run.{Run, count, channel, into, IsState, sending, receiving, paired, Paired}
use Rattle.model.specs.Known.{Known}
use Rattle.model.specs.Cut.{some_up_to}
use Rattle.model.proofs.Lists.{some_at, at_some}
use Rattle.model.proofs.Pairing.{view, from_side, sent_there, received_there}
use Rattle.model.proofs.Messages.{sending_send, receiving_receive}
use Rattle.record.specs.declared.Head.{Head}
use Rattle.run.specs.Read.{read_of}
use Rattle.run.specs.Said.{states_of, run_in}
use Rattle.judged.specs.Judged.{Judged, Unpaired, Faultless}
use Rattle.judged.specs.Judged.Judged.{by_pass, by_pairing, by_circle, by_clock, wholly}
use Rattle.judged.specs.Judged.Unpaired.{second_send, second_receive, no_send}
use Rattle.judged.specs.Pairing.{Clear}
use Rattle.run.proofs.Listed.{sides, place_rises}
use Rattle.judged.proofs.Pairs.{same_parts}
use Rattle.judged.proofs.Verdicts.{clear_paired, clear_known}

module _ (s : List ℕ) (read : read_of s ≡ Ok (states_of s)) where
  abbrev r : Run
  r = run_in s

  module _ (none : Faultless s (Unpaired s)) where
    -- the sender of the channel has the send, or else no process has
    has-send : (p k : ℕ) → IsState r p k → (m : Message) → into r p k ≡ Receive m → (i : ℕ) × (l : ℕ) × Paired r i l p k
    has-send p k t m e = go (some_up_to f (count r from)) refl
      where
        from : ℕ
        from = (channel r m.channel).from

        f : ℕ → Bool
        f l = paired r from l p k

        other : (i l : ℕ) → Paired r i l p k → T (some_up_to f (count r from))
        other i l q =
            let v = view q in
            let same : v.received ≡ m = cc (v.receive, e) in
            let end : i ≡ from = sym (from_side r (sides s read) v) ∙ ap (λ n. (channel r n.channel).from) same in
            let q' : Paired r from l p k = rw end at q in
            let there = sent_there (view q').send in
            at_some f (count r from) l there.counted there.there q'.same

        go : (t : Bool) → some_up_to f (count r from) ≡ t → (i : ℕ) × (l : ℕ) × Paired r i l p k
        go true d = let (l, a, b, u) = some_at f (count r from) (subst T (sym d) tt) in (from, l, record { same = u })
        go false d = absurd (none p k t (no_send m e (λ i l q. subst T d (other i l q))))

    unpaired_clear : (p k : ℕ) → IsState r p k → Clear r p k
    unpaired_clear p k t = record {
      new_send = λ l h u.
          let (m, n, a, b, x, y) = same_parts (sending (into r p l)) (sending (into r p k)) u in
          let t' = sent_there (sending_send (into r p l) m a) in
          none p k t (second_send p l t' (place_rises s read p l k t' t h) u);
      new_receive = λ l h u.
          let (m, n, a, b, x, y) = same_parts (receiving (into r p l)) (receiving (into r p k)) u in
          let t' = received_there (receiving_receive (into r p l) m a) in
          none p k t (second_receive p l t' (place_rises s read p l k t' t h) u);
      has_send = has-send p k t;
    }

    pub paired_known : Known r
    paired_known = clear_known s read unpaired_clear

  pub known_paired : Known r → Faultless s (Unpaired s)
  known_paired known p k t = clear_paired s read p k t (record {
    new_send = λ l h u.
        let (m, n, a, b, x, y) = same_parts (sending (into r p l)) (sending (into r p k)) u in
        omega (arith, h, known.once p l k m n (sending_send (into r p l) m a) (sending_send (into r p k) n b) x y);
    new_receive = λ l h u.
        let (m, n, a, b, x, y) = same_parts (receiving (into r p l)) (receiving (into r p k)) u in
        omega (arith, h, known.taken p l k m n (receiving_receive (into r p l) m a) (receiving_receive (into r p k) n b) x y);
    has_send = known.origin p k;
  })

pub accepted_read : {s : List ℕ} {a : Result Head Refusal} {h : Head} → Judged s a → a ≡ Ok h → read_of s ≡ Ok (states_of s)
accepted_read (by_pass x d) e = never (cc)
accepted_read (by_pairing x d w) e = d
accepted_read (by_circle x d n w) e = d
accepted_read (by_clock x d n m w) e = d
accepted_read (wholly d n m o) e = d

pub accepted_known : {s : List ℕ} {a : Result Head Refusal} {h : Head} → Judged s a → a ≡ Ok h → Known (run_in s)
accepted_known (by_pass x d) e = never (cc)
accepted_known (by_pairing x d w) e = never (cc)
accepted_known {s} (by_circle x d n w) e = paired_known s d n
accepted_known {s} (by_clock x d n m w) e = paired_known s d n
accepted_known {s} (wholly d n m o) e = paired_known s d n
