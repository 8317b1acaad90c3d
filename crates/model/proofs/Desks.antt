-- Small runs on which the definitions are computed: the run of two desks with its marked cases, and what those cases leave open.
use mathlib.Core.Path.{◌≡◌, refl}
use mathlib.Core.Bool.{true, false}
use mathlib.Core.List.{List, [], ◌∷◌, Memᴰ}
use mathlib.Core.Logic.{inl, ⊎_elim, ◌≢◌}
use mathlib.Core.Option.{Option, some, none}
use Prim.Native.Nat.{ℕ, zero, suc, ◌+◌}
use native.Mathlib.Omega.{arith}
use lib.IntN.{ℤ, pos, negsuc}
use lib.ListN.{length, take}
use Rattle.model.proofs.Numbers.{never}
use Rattle.model.specs.declared.Message.{Message}
use Rattle.model.specs.declared.Event.{Event}
use Rattle.model.specs.declared.Event.TheVariants.{Start, Internal, Send, Receive}
use Rattle.model.specs.Run.{Run, State, history, state, into, IsState, paired, Paired}
use Rattle.model.specs.Known.{Known}
use Rattle.model.specs.Cut.{Before, AfterCircle, ClockIs, at, sends, waiting, between, in_transit}
use Rattle.model.specs.Sent.{receives}
use Rattle.model.specs.NotYetSent.{unsent, ahead}
use Rattle.model.specs.Same.{SameUpTo}
use Rattle.model.specs.Cut.Before.{message, through}
use Rattle.model.specs.Clause.{Test, passes, Clause, holds, Satisfies, First}
use Rattle.model.specs.Linear.{Linear}
use Rattle.model.specs.Clause.Clause.{local, on}
use Rattle.model.specs.Clause.Comparison.{equal, other, at_most, at_least}
use Rattle.model.specs.Clause.Test.{count_at_most, count_at_least, count_is, stamp_is, no_stamp_is, every_at_least, some_at_most, count_odd, count_other}
use Rattle.model.proofs.Lists.{keep}
use Rattle.model.proofs.Order.{clock_unique}
use Rattle.model.proofs.Pairing.{view, one_send}
use Rattle.model.proofs.Circle.{clear}
use Rattle.model.proofs.Clock.{clock_own, clock_first, clock_step, clock_receive, before_first}
use Rattle.model.proofs.Decide.{consistent?, cuts_of, first?, first_found, none_found}
use Rattle.model.proofs.Tested.{known_test}

-- ---- a table of conditions and their answers, under one theorem

pub record Example : Type 0 where
  pub clauses : List Clause
  pub answer : Option (List ℕ)

unfoldable pub example : List Clause → Option (List ℕ) → Example
example k a = record { clauses = k; answer = a }

-- what an answer of the search says
abbrev pub Answer : Run → List Clause → Option (List ℕ) → Type 0
Answer r cond none = (d : List ℕ) → ¬ Satisfies r cond d
Answer r cond (some c) = First r cond c

answered : (r : Run) → Known r → (cond : List Clause) → Linear cond → (a : Option (List ℕ)) → first? r cond ≡ a → Answer r cond a
answered r known cond linear none e = none_found r known cond linear e
answered r known cond linear (some c) e = first_found r known cond linear c e

abbrev Computed : Run → List Example → Type 0
Computed r [] = Unit {0}
Computed r (k ∷ ks) = (Linear k.clauses × (first? r k.clauses ≡ k.answer)) × Computed r ks

all_answered : (r : Run) → Known r → (ks : List Example) → Computed r ks → (k : Example) → Memᴰ k ks → Answer r k.clauses k.answer
all_answered r known [] w k x = elim x [ ]
all_answered r known (x ∷ ks) w k (Memᴰ.head e) = rw e (answered r known x.clauses w.0.0 x.answer w.0.1)
all_answered r known (x ∷ ks) w k (Memᴰ.tail q) = all_answered r known ks w.1 k q

-- ---- the run of two desks

unfoldable pub row : Event → ℕ → State
row e v = record { event = e; values = pos v ∷ pos 0 ∷ pos 0 ∷ pos 0 ∷ [] }

unfoldable pub note : ℕ → ℕ → ℤ → Message
note c n x = record { channel = c; number = n; stamp = x }

unfoldable pub desks : Run
desks = record {
  histories = (row Start 0 ∷ row (Send (note 0 7 (pos 5))) 1 ∷ row Internal 1 ∷ [])
      ∷ (row Start 0 ∷ row (Receive (note 0 7 (pos 0))) 0 ∷ row Internal 1 ∷ [])
      ∷ [];
  channels = record { from = 0; to = 1 } ∷ [];
}

pub desks_known : Known desks
unfolding desks row note into state paired
desks_known = known_test desks tt

-- case 1
pub consistent_cuts : keep (consistent? desks) (cuts_of desks.histories)
    ≡ (1 ∷ 1 ∷ []) ∷ (2 ∷ 1 ∷ []) ∷ (2 ∷ 2 ∷ []) ∷ (2 ∷ 3 ∷ []) ∷ (3 ∷ 1 ∷ []) ∷ (3 ∷ 2 ∷ []) ∷ (3 ∷ 3 ∷ []) ∷ []
unfolding desks row note into state paired
consistent_cuts = refl

-- cases 2 to 8, and below them the rows that tell apart what those leave open
unfoldable pub table : List Example
table =
    example [] (some (1 ∷ 1 ∷ []))
    ∷ example (on 0 (count_is 1) ∷ []) (some (2 ∷ 1 ∷ []))
    ∷ example (local 0 0 at_least (pos 1) ∷ on 0 (count_at_most 0) ∷ []) (some (2 ∷ 2 ∷ []))
    ∷ example (local 1 0 equal (pos 1) ∷ []) (some (2 ∷ 3 ∷ []))
    ∷ example (local 1 0 equal (pos 1) ∷ on 0 (count_at_least 1) ∷ []) none
    ∷ example (on 0 (every_at_least (pos 6)) ∷ []) (some (1 ∷ 1 ∷ []))
    ∷ example (on 0 (some_at_most (pos 4)) ∷ []) none
    ∷ example (on 0 (stamp_is (pos 5)) ∷ []) (some (2 ∷ 1 ∷ []))
    ∷ example (local 0 0 at_least (pos 1) ∷ on 0 (no_stamp_is (pos 5)) ∷ []) (some (2 ∷ 2 ∷ []))
    ∷ example (local 0 0 at_least (pos 1) ∷ on 0 (no_stamp_is (pos 6)) ∷ []) (some (2 ∷ 1 ∷ []))
    ∷ example (local 0 0 at_least (pos 1) ∷ on 0 (every_at_least (pos 6)) ∷ []) (some (2 ∷ 2 ∷ []))
    ∷ example (local 0 0 at_least (pos 1) ∷ on 0 (every_at_least (negsuc 0)) ∷ []) (some (2 ∷ 1 ∷ []))
    ∷ example (on 0 (some_at_most (pos 5)) ∷ []) (some (2 ∷ 1 ∷ []))
    ∷ example (local 1 0 other (pos 0) ∷ []) (some (2 ∷ 3 ∷ []))
    ∷ example (local 0 0 at_most (pos 0) ∷ on 0 (count_at_least 1) ∷ []) none
    ∷ example (local 0 1 at_least (pos 1) ∷ []) none
    ∷ []

pub marked : (k : Example) → Memᴰ k table → Answer desks k.clauses k.answer
unfolding desks row note table example into state paired sends waiting between in_transit holds
marked = all_answered desks desks_known table (
  (tt, refl),
  (
    (tt, refl),
    (
      (tt, refl),
      (
        (tt, refl),
        (
          (tt, refl),
          (
            (tt, refl),
            (
              (tt, refl),
              (
                (tt, refl),
                (
                  (tt, refl),
                  (
                    (tt, refl),
                    (
                      (tt, refl),
                      (
                        (tt, refl),
                        ((tt, refl), ((tt, refl), ((tt, refl), ((tt, refl), tt)))),
                      ),
                    ),
                  ),
                ),
              ),
            ),
          ),
        ),
      ),
    ),
  ),
)

-- case 9: the set is empty where a receive is in and its send is not
pub early : in_transit desks (1 ∷ 2 ∷ []) 0 ≡ []
unfolding desks row note into state paired sends waiting between in_transit
early = refl

-- the message that is on its way at the first cut of case 3
pub sent : in_transit desks (2 ∷ 1 ∷ []) 0 ≡ note 0 7 (pos 5) ∷ []
unfolding desks row note into state paired sends waiting between in_transit
sent = refl

-- ---- its clocks: (1,0) (2,0) (3,0) and (0,1) (1,2) (1,3)

pub each_state : (P : ℕ → ℕ → Type 0) → P 0 1 → P 0 2 → P 0 3 → P 1 1 → P 1 2 → P 1 3 → (j l : ℕ) → IsState desks j l → P j l
unfolding desks
each_state P a b c d e f j zero s = absurd (omega (arith, s.counted))
each_state P a b c d e f zero (suc zero) s = a
each_state P a b c d e f zero (suc (suc zero)) s = b
each_state P a b c d e f zero (suc (suc (suc zero))) s = c
each_state P a b c d e f zero (suc (suc (suc (suc l)))) s = absurd (omega (arith, s.there))
each_state P a b c d e f (suc zero) (suc zero) s = d
each_state P a b c d e f (suc zero) (suc (suc zero)) s = e
each_state P a b c d e f (suc zero) (suc (suc (suc zero))) s = f
each_state P a b c d e f (suc zero) (suc (suc (suc (suc l)))) s = absurd (omega (arith, s.there))
each_state P a b c d e f (suc (suc j)) (suc l) s = absurd (omega (arith, s.there))

-- the send leads into state 2 of process 0, the receive into state 2 of process 1
one_message : Paired desks 0 2 1 2
unfolding desks row note into state paired
one_message = record { same = tt }

-- a state that nothing is received into
abbrev Own : ℕ → ℕ → Type 0
Own j l = (m : Message) → into desks j l ≢ Receive m

own : (Own 0 2 × Own 0 3) × Own 1 3
unfolding desks row note into state
own = (
  (λ m e. never (cc), λ m e. never (cc)),
  λ m e. never (cc),
)

first_clear : (j : ℕ) → ¬ AfterCircle desks j 1
first_clear j = clear desks (λ i k d. absurd (before_first desks desks_known d))

own_clear : {j l : ℕ} → Own j (suc l) → ¬ AfterCircle desks j l → ¬ AfterCircle desks j (suc l)
own_clear {j} {l} n c = clear desks (λ i k d. ⊎_elim
    (λ (a : (i ≡ j) × (suc k ≡ suc l) × IsState desks i k). let e : k ≡ l = omega (arith, a.1) in rw (a.0, e) c)
    (λ o. absurd (n (view o).received (view o).receive))
    d)

receive_clear : ¬ AfterCircle desks 1 2
receive_clear = clear desks (λ i k d. ⊎_elim
    (λ (a : (i ≡ 1) × (suc k ≡ 2) × IsState desks i k). let e : k ≡ 1 = omega (arith, a.1) in rw (a.0, e) (first_clear 1))
    (λ o. let u = one_send desks desks_known o one_message in let e : k ≡ 1 = omega (arith, u.1) in rw (u.0, e) (first_clear 0))
    d)

pub desks_clear : (j l : ℕ) → IsState desks j l → ¬ AfterCircle desks j l
desks_clear =
    let second : ¬ AfterCircle desks 0 2 = own_clear own.0.0 (first_clear 0) in
    each_state (λ j l. ¬ AfterCircle desks j l) (first_clear 0) second (own_clear own.0.1 second) (first_clear 1) receive_clear (own_clear own.1 receive_clear)

-- both places of a clock
pub record Clock (j l x y : ℕ) : Type 0 where
  pub left : ClockIs desks j l 0 x
  pub right : ClockIs desks j l 1 y

pub clock_01 : Clock 0 1 1 0
clock_01 = record { left = clock_own desks 0 1; right = clock_first desks desks_known 0 1 (λ e. absurd (omega arith)) }

pub clock_02 : Clock 0 2 2 0
unfolding desks
clock_02 = record { left = clock_own desks 0 2; right = clock_step desks desks_known 0 1 1 0 (λ e. absurd (omega arith)) (record { counted = omega arith; there = omega arith }) (record { counted = omega arith; there = omega arith }) own.0.0 clock_01.right }

pub clock_03 : Clock 0 3 3 0
unfolding desks
clock_03 = record { left = clock_own desks 0 3; right = clock_step desks desks_known 0 2 1 0 (λ e. absurd (omega arith)) (record { counted = omega arith; there = omega arith }) (record { counted = omega arith; there = omega arith }) own.0.1 clock_02.right }

pub clock_11 : Clock 1 1 0 1
clock_11 = record { left = clock_first desks desks_known 1 0 (λ e. absurd (omega arith)); right = clock_own desks 1 1 }

pub clock_12 : Clock 1 2 1 2
unfolding desks
clock_12 = record {
  left = clock_receive desks desks_known 1 1 0 1 0 0 1 (λ e. absurd (omega arith)) (record { counted = omega arith; there = omega arith }) one_message (first_clear 0) clock_11.left clock_01.left;
  right = clock_own desks 1 2;
}

pub clock_13 : Clock 1 3 1 3
unfolding desks
clock_13 = record { left = clock_step desks desks_known 1 2 0 1 (λ e. absurd (omega arith)) (record { counted = omega arith; there = omega arith }) (record { counted = omega arith; there = omega arith }) own.1 clock_12.left; right = clock_own desks 1 3 }

-- case 10: at process 1's second state place 0 is 1, and not 2
pub wrong_clock : ¬ ClockIs desks 1 2 0 2
wrong_clock w = absurd (omega (arith, clock_unique w clock_12.left))

-- ---- nothing past the cut counts: a run with other states past (2, 1)

pub later : Run
later = record {
  histories = (row Start 0 ∷ row (Send (note 0 7 (pos 5))) 1 ∷ row (Send (note 0 8 (pos 2))) 9 ∷ row Internal 9 ∷ []) ∷ (row Start 0 ∷ []) ∷ [];
  channels = record { from = 0; to = 1 } ∷ [];
}

pub same_up_to : SameUpTo (2 ∷ 1 ∷ []) desks later
unfolding desks later row note
same_up_to = record { channels = refl; processes = refl; states = states }
  where
    states : (i : ℕ) → take (at (2 ∷ 1 ∷ []) i) (history desks i) ≡ take (at (2 ∷ 1 ∷ []) i) (history later i)
    states zero = refl
    states (suc zero) = refl
    states (suc (suc i)) = refl

-- ---- two channels between the same two processes, the same number on both

pub twin : Run
twin = record {
  histories = (row Start 0 ∷ row (Send (note 0 7 (pos 5))) 0 ∷ row (Send (note 1 7 (pos 6))) 0 ∷ []) ∷ (row Start 0 ∷ row (Receive (note 1 7 (pos 0))) 0 ∷ []) ∷ [];
  channels = record { from = 0; to = 1 } ∷ record { from = 0; to = 1 } ∷ [];
}

pub twin_known : Known twin
unfolding twin row note into state paired
twin_known = known_test twin tt

pub twin_table : List Example
twin_table =
    example (on 1 (count_at_least 1) ∷ []) (some (3 ∷ 1 ∷ []))
    ∷ example (on 0 (count_is 1) ∷ on 1 (count_is 0) ∷ local 1 3 equal (pos 0) ∷ []) (some (2 ∷ 1 ∷ []))
    ∷ example (on 0 (stamp_is (pos 6)) ∷ []) none
    ∷ []

pub twin_marked : (k : Example) → Memᴰ k twin_table → Answer twin k.clauses k.answer
unfolding twin row note twin_table example into state paired sends waiting between in_transit holds
twin_marked = all_answered twin twin_known twin_table ((tt, refl), ((tt, refl), ((tt, refl), tt)))

-- the message of channel 0 is not received by the receive of channel 1
pub twin_left : (length (in_transit twin (3 ∷ 2 ∷ []) 0) ≡ 1) × (length (in_transit twin (3 ∷ 2 ∷ []) 1) ≡ 0)
unfolding twin row note into state paired sends waiting between in_transit
twin_left = (refl, refl)

-- ---- two processes that each receive before they send to the other

pub ring : Run
ring = record {
  histories = (row Start 0 ∷ row (Receive (note 1 1 (pos 0))) 0 ∷ row (Send (note 0 1 (pos 0))) 0 ∷ [])
      ∷ (row Start 0 ∷ row (Receive (note 0 1 (pos 0))) 0 ∷ row (Send (note 1 1 (pos 0))) 0 ∷ [])
      ∷ [];
  channels = record { from = 0; to = 1 } ∷ record { from = 1; to = 0 } ∷ [];
}

pub ring_circle : AfterCircle ring 0 2
unfolding ring row note into state paired
ring_circle =
    let there : Before ring 0 2 1 2 = message (record { same = tt }) in
    let back : Before ring 1 2 0 2 = message (record { same = tt }) in
    record { process = 0; number = 2; circle = through there back; reach = inl (refl, refl) }

-- ---- a run in which more is sent than received; why tests 8 and 9 are refused: neither process has to move

-- three messages sent, and the second of them received
pub busy : Run
busy = record {
  histories = (row Start 0 ∷ row (Send (note 0 1 (pos 0))) 0 ∷ row (Send (note 0 2 (pos 0))) 0 ∷ row (Send (note 0 3 (pos 0))) 0 ∷ [])
      ∷ (row Start 0 ∷ row (Receive (note 0 2 (pos 0))) 0 ∷ [])
      ∷ [];
  channels = record { from = 0; to = 1 } ∷ [];
}

-- the first is sent and not received, the second received and not sent: one message, not one less one
pub crossed : length (between busy 0 2 2) ≡ 1
unfolding busy row note into state paired sends waiting between
crossed = refl

-- and the second is the one message that is received and not yet sent
pub crossed_unsent : length (ahead busy 0 2 2) ≡ 1
unfolding busy row note into state paired receives unsent ahead
crossed_unsent = refl

-- false at both, and true once either goes on by itself
pub record NoMover (t : Test) (a b : ℕ) : Type 0 where
  pub here : passes t (between busy 0 a b) ≡ false
  pub sender : passes t (between busy 0 (a + 1) b) ≡ true
  pub receiver : passes t (between busy 0 a (b + 1)) ≡ true

pub odd_no_mover : NoMover count_odd 3 1
unfolding busy row note into state paired sends waiting between
odd_no_mover = record { here = refl; sender = refl; receiver = refl }

pub other_no_mover : NoMover (count_other 2) 3 1
unfolding busy row note into state paired sends waiting between
other_no_mover = record { here = refl; sender = refl; receiver = refl }
