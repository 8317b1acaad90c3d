-- Words of the contracts of the inner functions that order the states and compare their clocks; the promises don't use them. Here s are a run's bytes, r the run and
-- ix its index, and done how many states of each process are done; a is the state ahead of the send that state k of process p receives, or none, and x is a place of a
-- clock. What is written with ' is as the function leaves it.
use Rattle.std.specs.Prelude.{◌≡◌, ◌⊎◌, ◌≢◌, Bool, true, false, cond, List, ℕ, suc, ◌+◌, ◌-◌, ◌≤◌, ◌<◌, max, eqb, length, get_or, set, Option, Some, None}
use Rattle.std.specs.Option.{IfSome}
use Rattle.model.specs.declared.Message.{Message}
use Rattle.model.specs.declared.Event.TheVariants.{Receive}
use Rattle.model.specs.Run.{Run, count, processes, into, IsState, Paired}
use Rattle.model.specs.Cut.{AfterCircle, ClockIs}
use Rattle.record.specs.Record.{head_of}
use Rattle.run.specs.Said.{run_in}
use Rattle.run.specs.Index.{clock_row, clock_in, HasSlot, Matched, index_size}
use Rattle.judged.specs.declared.Ahead.{Ahead}
use Rattle.judged.specs.Judged.{WrongClock}
use Rattle.model.specs.Total.{total}

-- ---- a clock

-- none where nothing is received
pub data AheadIs (r : Run) (p k : ℕ) : Option Ahead → Type 0 where
  nothing : ((m : Message) → into r p k ≢ Receive m) → AheadIs r p k None
  sent : (a : Ahead) → 1 ≤ a.state → Paired r a.process (suc a.state) p k → AheadIs r p k (Some a)

-- a process that has entries, and the number of a state that has, or 0
pub record SlotOrNone (p k : ℕ) : Type 0 where
  pub process : p < 8
  pub few : k ≤ 512

-- the index has room for the clock of a state, and for that of the state ahead of its send
pub record ClockRoom (ix : List ℕ) (p k : ℕ) (a : Option Ahead) : Type 0 where
  pub long : length ix ≡ index_size
  pub own : HasSlot p k
  pub ahead : IfSome a (λ a. HasSlot a.process a.state)

-- place x of the clock of state k of process p, 0 where there is no state
unfoldable pub number_at : List ℕ → ℕ → ℕ → ℕ → ℕ
number_at ix p k x = cond (eqb k 0) 0 (clock_in ix p k x)

-- place x of the clock of the state ahead of the send, 0 where nothing is received
unfoldable pub number_ahead : List ℕ → Option Ahead → ℕ → ℕ
number_ahead ix None x = 0
number_ahead ix (Some a) x = clock_in ix a.process a.state x

-- place x of the clock of state k of process p, from those of the state before and of the state ahead of the send
unfoldable pub number_of : List ℕ → ℕ → ℕ → Option Ahead → ℕ → ℕ
number_of ix p k a x = cond (eqb x p) k (max (number_at ix p (k - 1) x) (number_ahead ix a x))

-- places 0 to n - 1 of the clock of state k of process p are written, and no other state's
pub record Written (n p k : ℕ) (a : Option Ahead) (ix ix' : List ℕ) : Type 0 where
  pub row : (x : ℕ) → x < n → clock_in ix' p k x ≡ number_of ix p k a x
  pub rest : (x : ℕ) → (x < clock_row p k) ⊎ (clock_row p k + 8 ≤ x) → get_or ix' x 0 ≡ get_or ix x 0

-- ---- the order

-- what is done is clear of circles, and its clocks are right
pub record Sound (r : Run) (done ix : List ℕ) : Type 0 where
  pub within : (p : ℕ) → get_or done p 0 ≤ count r p
  pub clear : (p k : ℕ) → IsState r p k → k ≤ get_or done p 0 → ¬ AfterCircle r p k
  pub clocks : (j l i : ℕ) → IsState r j l → l ≤ get_or done j 0 → i < processes r → ClockIs r j l i (clock_in ix j l i)

-- .. and all else is on a circle or after one
pub record Ordered (s done ix : List ℕ) : Type 0 where
  pub sound : Sound (run_in s) done ix
  pub caught : (p k : ℕ) → IsState (run_in s) p k → get_or done p 0 < k → AfterCircle (run_in s) p k

-- a run of n processes while it is ordered
pub record Ordering (s ix done : List ℕ) (n : ℕ) : Type 0 where
  pub matched : Matched s ix
  pub eight : length done ≡ 8
  pub all : n ≡ (head_of s).processes
  pub sound : Sound (run_in s) done ix

-- process p is finished, or its next state receives what a state ahead of which isn't done sends
unfoldable pub Waits : Run → List ℕ → ℕ → Type 0
Waits r done p = get_or done p 0 < count r p → (i : ℕ) × (k : ℕ) × Paired r i (suc k) p (suc (get_or done p 0)) × (get_or done i 0 < k)

-- one state of process p more is done, or it waits
pub record Advanced (s : List ℕ) (n p : ℕ) (done done' ix' : List ℕ) (answer : Bool) : Type 0 where
  pub ordering : Ordering s ix' done' n
  pub moved : answer ≡ true → done' ≡ set done p (get_or done p 0 + 1)
  pub waits : answer ≡ false → (done' ≡ done) × Waits (run_in s) done p

-- processes 0 to p - 1 have had their turn: more is done, or all of them wait
pub record Swept (s : List ℕ) (n p : ℕ) (done done' ix' : List ℕ) (answer : Bool) : Type 0 where
  pub ordering : Ordering s ix' done' n
  pub more : total done ≤ total done'
  pub moved : answer ≡ true → total done < total done'
  pub waits : answer ≡ false → (q : ℕ) → q < p → Waits (run_in s) done' q

-- ---- 13, by the clocks of the index

-- whether a recorded clock number is other than the rule's
pub record Compared (s : List ℕ) (p k : ℕ) (answer : Bool) : Type 0 where
  pub differs : answer ≡ true → WrongClock s p k
  pub agrees : answer ≡ false → ¬ WrongClock s p k
