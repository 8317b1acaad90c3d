-- In a run without a circle every state has its clock: the states are taken one by one, each after those directly before it.
use mathlib.Core.Path.{◌≡◌, refl, sym, ap, ◌∙◌, subst}
use mathlib.Core.Logic.{◌⊎◌, inl, inr, ⊎_elim, ◌≢◌}
use mathlib.Core.List.{List, [], map}
use Prim.Native.Nat.{ℕ, zero, suc, ◌+◌, ◌-◌, ◌≤◌, ◌<◌, max}
use native.Mathlib.Nat.{eq-or-lt_of_le}
use native.Mathlib.Decide.{ℕ_discrete}
use native.Mathlib.Omega.{arith}
use lib.ListN.{length, get_or, set, replicate, length-set, length-replicate, get_or-replicate, get_or-eq_default, get_or-map}
use lib.Seq.{get_or-set_same, get_or-set_other}
use Rattle.model.specs.declared.Message.{Message}
use Rattle.model.specs.declared.Event.{Event}
use Rattle.model.specs.declared.Event.TheVariants.{Start, Internal, Send, Receive}
use Rattle.model.specs.Run.{Run, processes, count, into, IsState, Paired}
use Rattle.model.specs.Known.{Known}
use Rattle.model.specs.Cut.{AfterCircle, ClockIs}
use Rattle.model.specs.Total.{total}
use Rattle.model.proofs.Total.{total-set, total_below}
use Rattle.model.proofs.Numbers.{below_next}
use Rattle.model.proofs.Lists.{le_or_lt}
use Rattle.model.proofs.Pairing.{view, sent_there, sent_later, one_send, process_there}
use Rattle.model.proofs.Messages.{no_receive}
use Rattle.model.proofs.Circle.{Direct, waiting_circle}
use Rattle.model.proofs.Clock.{clock_own, clock_first, clock_step, clock_receive}

-- a state receives nothing, or what another state sends, which isn't its process's first
data Arrives (r : Run) (j l : ℕ) : Type 0 where
  nothing : ((m : Message) → into r j l ≢ Receive m) → Arrives r j l
  sent : (i k : ℕ) → IsState r i k → Paired r i (suc k) j l → Arrives r j l

module _ (r : Run) (known : Known r) where
  arrives : (j l : ℕ) → Arrives r j l
  arrives j l = go (into r j l) refl
    where
      go : (e : Event) → into r j l ≡ e → Arrives r j l
      go Start e = nothing (no_receive Start e refl)
      go Internal e = nothing (no_receive Internal e refl)
      go (Send m) e = nothing (no_receive (Send m) e refl)
      go (Receive m) e =
          let (i, k, q) = known.origin j l m e in
          let t : IsState r i k = sent_there (view q).send in
          let h = sent_later r known q in
          let same : k ≡ suc (k - 1) = omega arith in
          sent i (k - 1) (record { counted = omega arith; there = omega (arith, t.there) }) (subst (λ k. Paired r i k j l) same q)

  -- what holds of a state where it holds of those directly before it holds of every state
  module _ (free : (j l : ℕ) → IsState r j l → ¬ AfterCircle r j l) (P : ℕ → ℕ → Type 0)
      (step : (j l : ℕ) → IsState r j l → ((i k : ℕ) → Direct r i k j l → P i k) → P j l) where
    -- so many states of each process are done
    record Done (done : List ℕ) : Type 0 where
      size : length done ≡ processes r
      within : (j : ℕ) → get_or done j 0 ≤ count r j
      holds : (j l : ℕ) → 1 ≤ l → l ≤ get_or done j 0 → P j l

    -- the next state of process j can be done; or it waits for one that isn't
    record Ready (done : List ℕ) (j : ℕ) : Type 0 where
      more : get_or done j 0 < count r j
      before : (i k : ℕ) → Direct r i k j (suc (get_or done j 0)) → P i k

    Waits : List ℕ → ℕ → Type 0
    Waits done j = get_or done j 0 < count r j → (i : ℕ) × (k : ℕ) × Paired r i (suc k) j (suc (get_or done j 0)) × (get_or done i 0 < k)

    module _ {done : List ℕ} (w : Done done) where
      turn : (j : ℕ) → Ready done j ⊎ Waits done j
      unfolding Waits
      turn j = ⊎_elim (λ h. by_arrival h (arrives j (suc d))) (λ h. inr (λ g. absurd (omega arith))) (le_or_lt (suc d) (count r j))
        where
          d : ℕ
          d = get_or done j 0

          -- the state ahead in its own process is done
          own : (i k : ℕ) → (i ≡ j) × (suc k ≡ suc d) × IsState r i k → P i k
          own i k (e, h, t) = subst (λ i. P i k) (sym e) (w.holds j k t.counted (omega arith))

          by_arrival : d < count r j → Arrives r j (suc d) → Ready done j ⊎ Waits done j
          by_arrival h (nothing none) = inl (record { more = h; before = λ i k. ⊎_elim (own i k) (λ q. absurd (none (view q).received (view q).receive)) })
          by_arrival h (sent f m t q) = ⊎_elim
              (λ g. inl (record {
                more = h;
                before = λ i k. ⊎_elim (own i k) (λ o.
                    let u = one_send r known o q in
                    let e : k ≡ m = omega (arith, u.1) in
                    rw (u.0, e) (w.holds f m t.counted g));
              }))
              (λ g. inr (λ z. (f, m, q, g)))
              (le_or_lt m (get_or done f 0))

      find : (n : ℕ) → ((j : ℕ) × Ready done j) ⊎ ((j : ℕ) → j < n → Waits done j)
      find zero = inr (λ j h. absurd (omega arith))
      find (suc n) = go (turn n) (find n)
        where
          go : Ready done n ⊎ Waits done n → ((j : ℕ) × Ready done j) ⊎ ((j : ℕ) → j < n → Waits done j)
              → ((j : ℕ) × Ready done j) ⊎ ((j : ℕ) → j < suc n → Waits done j)
          go (inl x) rest = inl (n, x)
          go (inr x) (inl y) = inl y
          go (inr x) (inr y) = inr (λ j h. below_next (Waits done) (omega arith) x (λ g. y j g))

      module _ (j : ℕ) (next : Ready done j) where
        abbrev d : ℕ
        d = get_or done j 0

        here : IsState r j (suc d)
        here = record { counted = omega arith; there = next.more }

        inside : j < length done
        inside = omega (arith, process_there here, w.size)

        at_own : get_or (set done j (d + 1)) j 0 ≡ suc d
        at_own = get_or-set_same done j _ 0 inside ∙ omega arith

        one_more : Done (set done j (d + 1))
        one_more = record {
          size = length-set done j (d + 1) ∙ w.size;
          within = λ i. elim (ℕ_discrete i j) [
            | yes e ↦ omega (arith, next.more, at_own, ap (λ i. get_or (set done j (d + 1)) i 0) e, ap (count r) e)
            | no n ↦ omega (arith, get_or-set_other done j i (d + 1) 0 n, w.within i)
          ];
          holds = λ i l p q. elim (ℕ_discrete i j) [
            | yes e ↦ subst (λ i. P i l) (sym e) (⊎_elim
                (λ z. subst (P j) (sym z) (step j (suc d) here next.before))
                (λ z. w.holds j l p (omega arith))
                (eq-or-lt_of_le (omega (arith, at_own, ap (λ i. get_or (set done j (d + 1)) i 0) e))))
            | no n ↦ w.holds i l p (omega (arith, get_or-set_other done j i (d + 1) 0 n))
          ];
        }

        one_longer : total (set done j (d + 1)) ≡ total done + 1
        one_longer = total-set done j inside

    -- never more are done than there are
    counts : List ℕ
    counts = map length r.histories

    few : {done : List ℕ} → Done done → total done ≤ total counts
    unfolding counts
    few {done} w = total_below done counts (λ j. omega (arith, w.within j, get_or-map length r.histories j []))

    -- where every process waits, all are done
    all_wait : {done : List ℕ} → Done done → ((j : ℕ) → j < processes r → Waits done j) → (j l : ℕ) → IsState r j l → P j l
    unfolding Waits
    all_wait {done} w waits j l t = ⊎_elim
        (λ g. w.holds j l t.counted g)
        (λ g. absurd (free j l t (waiting_circle r (λ i. get_or done i 0) (λ i h. waits i (there i h) h) j l g t.there)))
        (le_or_lt l (get_or done j 0))
      where
        there : (i : ℕ) → get_or done i 0 < count r i → i < processes r
        there i h = process_there {r = r} {k = suc (get_or done i 0)} (record { counted = omega arith; there = h })

    -- f bounds how many are left
    all_from : (f : ℕ) (done : List ℕ) → total counts ≤ total done + f → Done done → (j l : ℕ) → IsState r j l → P j l
    all_from zero done h w = ⊎_elim (λ (j, x). absurd (omega (arith, h, few (one_more w j x), one_longer w j x))) (all_wait w) (find w (processes r))
    all_from (suc f) done h w =
        ⊎_elim (λ (j, x). all_from f (set done j (get_or done j 0 + 1)) (omega (arith, h, one_longer w j x)) (one_more w j x)) (all_wait w) (find w (processes r))

    abbrev start : List ℕ
    start = replicate (processes r) 0

    none_done : (j : ℕ) → get_or start j 0 ≡ 0
    none_done j = ⊎_elim
        (λ h. get_or-replicate (processes r) j 0 0 h)
        (λ h. get_or-eq_default start 0 {n = j} (omega (arith, length-replicate {A = ℕ} (processes r) 0)))
        (le_or_lt (suc j) (processes r))

    pub by_order : (j l : ℕ) → IsState r j l → P j l
    by_order = all_from (total counts) start (omega arith) (record {
      size = length-replicate (processes r) 0;
      within = λ j. omega (arith, none_done j);
      holds = λ j l p q. absurd (omega (arith, none_done j));
    })

  -- every state has its clock
  abbrev Clocked : ℕ → ℕ → Type 0
  Clocked j l = (i : ℕ) → (k : ℕ) × ClockIs r j l i k

  pub has_clock : ((j l : ℕ) → IsState r j l → ¬ AfterCircle r j l) → (j l : ℕ) → IsState r j l → (i : ℕ) → (k : ℕ) × ClockIs r j l i k
  has_clock free = by_order free Clocked step
    where
      step : (j l : ℕ) → IsState r j l → ((f m : ℕ) → Direct r f m j l → Clocked f m) → Clocked j l
      step j l t before i = elim (ℕ_discrete i j) [
        | yes e ↦ (l, subst (λ i. ClockIs r j l i l) (sym e) (clock_own r j l))
        | no n ↦ other l t before n (arrives j l)
      ]
        where
          other : (l : ℕ) → IsState r j l → ((f m : ℕ) → Direct r f m j l → Clocked f m) → i ≢ j → Arrives r j l → (k : ℕ) × ClockIs r j l i k
          other zero t before n a = absurd (omega (arith, t.counted))
          other (suc zero) t before n a = (0, clock_first r known j i n)
          other (suc (suc l)) t before n (nothing none) =
              let s : IsState r j (suc l) = record { counted = omega arith; there = omega (arith, t.there) } in
              let (x, w) = before j (suc l) (inl (refl, refl, s)) i in
              (x, clock_step r known j (suc l) i x n s t none w)
          other (suc (suc l)) t before n (sent f m u q) =
              let s : IsState r j (suc l) = record { counted = omega arith; there = omega (arith, t.there) } in
              let (x, w) = before j (suc l) (inl (refl, refl, s)) i in
              let (y, v) = before f m (inr q) i in
              (max x y, clock_receive r known j (suc l) f m i x y n s q (free f m u) w v)
