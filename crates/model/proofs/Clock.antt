-- How clocks are worked out: along a process the other places stay, and at a receive each is the higher of two.
use mathlib.Core.Path.{◌≡◌, refl, sym, ◌∙◌}
use mathlib.Core.Logic.{◌⊎◌, inl, inr, ⊎_elim, ◌≢◌}
use Prim.Native.Nat.{ℕ, suc, ◌≤◌, ◌<◌, max}
use native.Mathlib.Decide.{ℕ_discrete}
use native.Mathlib.Omega.{arith}
use Rattle.model.specs.declared.Message.{Message}
use Rattle.model.specs.declared.Event.TheVariants.{Receive}
use Rattle.model.proofs.Circle.{Direct, last}
use Rattle.model.proofs.Lists.{le_or_lt}
use Rattle.model.proofs.Order.{before_down, source, target}
use Rattle.model.proofs.Pairing.{first_start, one_send, receive_start, received_there, view}
use Rattle.model.specs.Run.{Paired, IsState, Run, into}
use Rattle.model.specs.Known.{Known}
use Rattle.model.specs.Cut.{AfterCircle, Before, ClockIs}
use Rattle.model.specs.Cut.Before.{next, message, through}

module _ (r : Run) where
  pub clock_own : (j l : ℕ) → ClockIs r j l j l
  clock_own j l = record { own = λ e. refl; bound = λ n. absurd (n refl); reached = λ n. absurd (n refl) }

  -- clear of circles, before in one process is less
  less : {i n k : ℕ} → ¬ AfterCircle r i k → Before r i n i k → n < k
  less {i} {n} {k} c b = ⊎_elim
      (λ g. g)
      (λ g. absurd (c (record { process = i; number = k; circle = before_down (target b).counted (omega arith) (source b).0 b; reach = inl (refl, refl) })))
      (le_or_lt (suc n) k)

module _ (r : Run) (known : Known r) where
  -- nothing is directly before a first state
  pub before_first : {i k j : ℕ} → Direct r i k j 1 → ⊥
  before_first {i} {k} {j} e =
      ⊎_elim (λ (a : (i ≡ j) × (suc k ≡ 1) × IsState r i k). omega (arith, a.1, a.2.counted)) (λ w. receive_start (sym (view w).receive ∙ first_start r known j)) e

  pub clock_first : (j i : ℕ) → i ≢ j → ClockIs r j 1 i 0
  clock_first j i d = record { own = λ e. absurd (d e); bound = λ n m b. absurd (before_first (last r b).2); reached = λ n. inl refl }

  pub clock_step : (j l i x : ℕ) → i ≢ j → IsState r j l → IsState r j (suc l) → ((m : Message) → into r j (suc l) ≢ Receive m) → ClockIs r j l i x → ClockIs r j (suc l) i x
  clock_step j l i x d s t none w = record {
    own = λ e. absurd (d e);
    bound = λ n m b. go m (last r b);
    reached = λ n. ⊎_elim (λ e. inl e) (λ b. inr (through b (next s t))) (w.reached d);
  }
    where
      go : (m : ℕ) → (p : ℕ) × (q : ℕ) × Direct r p q j (suc l) × (((i ≡ p) × (m ≡ q)) ⊎ Before r i m p q) → m ≤ x
      go m (p, q, e, z) = ⊎_elim
          (λ (a : (p ≡ j) × (suc q ≡ suc l) × IsState r p q). ⊎_elim
          (λ (b : (i ≡ p) × (m ≡ q)). absurd (d (b.0 ∙ a.0)))
          (λ b. let q≡l : q ≡ l = omega (arith, a.1) in w.bound d m (rw (a.0, q≡l) at b))
          z)
          (λ o. absurd (none (view o).received (view o).receive))
          e

  pub clock_receive : (j l f k i x y : ℕ) → i ≢ j → IsState r j l → Paired r f (suc k) j (suc l) → ¬ AfterCircle r f k
      → ClockIs r j l i x → ClockIs r f k i y → ClockIs r j (suc l) i (max x y)
  clock_receive j l f k i x y d s o c w v = record {
    own = λ e. absurd (d e);
    bound = λ n m b. go m (last r b);
    reached = λ n. ⊎_elim
        (λ g. let e : max x y ≡ y = omega arith in rw e sender)
        (λ g. let e : max x y ≡ x = omega arith in rw e (⊎_elim (λ e. inl e) (λ b. inr (through b (next s (received_there (view o).receive)))) (w.reached d)))
        (le_or_lt x y);
  }
    where
      sender : (y ≡ 0) ⊎ Before r i y j (suc l)
      sender = elim (ℕ_discrete i f) [
        | yes e ↦ inr (rw (e, v.own e) (message o))
        | no n ↦ ⊎_elim (λ z. inl z) (λ b. inr (through b (message o))) (v.reached n)
      ]

      low : (m : ℕ) → ((i ≡ f) × (m ≡ k)) ⊎ Before r i m f k → m ≤ max x y
      low m (inl e) = omega (arith, v.own e.0, e.1)
      low m (inr b) = elim (ℕ_discrete i f) [
        | yes e ↦ omega (arith, v.own e, less r c (rw e at b))
        | no n ↦ omega (arith, v.bound n m b)
      ]

      go : (m : ℕ) → (p : ℕ) × (q : ℕ) × Direct r p q j (suc l) × (((i ≡ p) × (m ≡ q)) ⊎ Before r i m p q) → m ≤ max x y
      go m (p, q, e, z) = ⊎_elim
          (λ (a : (p ≡ j) × (suc q ≡ suc l) × IsState r p q). ⊎_elim
          (λ (b : (i ≡ p) × (m ≡ q)). absurd (d (b.0 ∙ a.0)))
          (λ b. let q≡l : q ≡ l = omega (arith, a.1) in omega (arith, w.bound d m (rw (a.0, q≡l) at b)))
          z)
          (λ o'. let u = one_send r known o' o in let q≡k : q ≡ k = omega (arith, u.1) in low m (rw (u.0, q≡k) at z))
          e
