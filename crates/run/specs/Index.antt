-- What the index holds of an accepted run, 40,968 numbers: at 0 how many states each process has, at 8 the places of their records,
-- at 4104 the other ends of sends and receives, at 8200 the clocks.
use Rattle.std.specs.Prelude.{◌≡◌, ◌⊎◌, List, ℕ, ◌+◌, ◌-◌, ◌*◌, ◌≤◌, ◌<◌, length, get_or, set, take, Ok}
use Rattle.model.specs.declared.Message.{Message}
use Rattle.model.specs.declared.Event.TheVariants.{Send}
use Rattle.model.specs.Run.{Run, into, channel, Paired}
use Rattle.model.specs.Known.{Known}
use Rattle.model.specs.Clocks.{Clocks}
use Rattle.states.specs.States.{places_of}
use Rattle.run.specs.Read.{counts_of, read_of}
use Rattle.run.specs.Said.{states_of, run_in}

-- how many numbers it has, and where the partners and the clocks begin
abbrev pub index_size : ℕ
index_size = 40968

abbrev pub partners_part : ℕ
partners_part = 4104

abbrev pub clocks_part : ℕ
clocks_part = 8200

-- state k of process i is number 512 i + k - 1 of the states
abbrev pub slot : ℕ → ℕ → ℕ
slot i k = 512 * i + (k - 1)

-- the entries of its place and its partner, and the first of its clock's eight
abbrev pub place_at : ℕ → ℕ → ℕ
place_at i k = 8 + slot i k

abbrev pub partner_at : ℕ → ℕ → ℕ
partner_at i k = partners_part + slot i k

abbrev pub clock_row : ℕ → ℕ → ℕ
clock_row i k = clocks_part + 8 * slot i k

-- a process and a number that have entries
pub record HasSlot (i k : ℕ) : Type 0 where
  pub process : i < 8
  pub counted : 1 ≤ k
  pub few : k ≤ 512

-- the states whose records stand at these places: how many each process has, and where
pub record Indexed (s qs ix : List ℕ) : Type 0 where
  pub counted : take 8 ix ≡ counts_of s qs
  pub few : (p : ℕ) → p < 8 → length (places_of s qs p) < 513
  pub placed : (p i : ℕ) → p < 8 → i < length (places_of s qs p) → get_or ix (8 + (512 * p + i)) 0 ≡ get_or (places_of s qs p) i 0

-- below 4104: what the pass leaves of a run that it accepts
pub record Listed (s ix : List ℕ) : Type 0 where
  pub read : read_of s ≡ Ok (states_of s)
  pub index : Indexed s (states_of s) ix
  pub long : length ix ≡ index_size

-- 4104 to 8199: the other end of a send or of a receive; 0 of a send that isn't received
pub record Partnered (r : Run) (ix : List ℕ) : Type 0 where
  pub sent : (i k j l : ℕ) → Paired r i k j l → get_or ix (partner_at i k) 0 ≡ l
  pub received : (i k j l : ℕ) → Paired r i k j l → get_or ix (partner_at j l) 0 ≡ k
  pub backed : (i k : ℕ) (m : Message) → into r i k ≡ Send m
      → (get_or ix (partner_at i k) 0 ≡ 0) ⊎ Paired r i k (channel r m.channel).to (get_or ix (partner_at i k) 0)

-- both of these, of a run whose pairing is right
pub record Matched (s ix : List ℕ) : Type 0 where
  pub listed : Listed s ix
  pub known : Known (run_in s)
  pub partners : Partnered (run_in s) ix

-- from 8200 on: place i of the clock at state l of process j
abbrev pub clock_in : List ℕ → ℕ → ℕ → ℕ → ℕ
clock_in ix j l i = get_or ix (clock_row j l + i) 0

-- all of it
pub record IndexHolds (s ix : List ℕ) : Type 0 where
  pub listed : Listed s ix
  pub known : Known (run_in s)
  pub partners : Partnered (run_in s) ix
  pub clocks : Clocks (run_in s) (clock_in ix)

-- ---- while it is filled

-- what keeping one state more of process p, at the place at, requires; and what it leaves
pub record HasRoom (ix : List ℕ) (p at : ℕ) : Type 0 where
  pub long : length ix ≡ index_size
  pub process : p < 8
  pub room : get_or ix p 0 < 512
  pub place : at ≤ 65535

abbrev pub with_state : List ℕ → ℕ → ℕ → List ℕ
with_state ix p at = set (set ix (8 + (512 * p + get_or ix p 0)) at) p (get_or ix p 0 + 1)

-- the entries from n on are 0
abbrev pub Fresh : ℕ → List ℕ → Type 0
Fresh n ix = (x : ℕ) → n ≤ x → get_or ix x 0 ≡ 0

-- the entries below n are as they were
pub record Kept (n : ℕ) (ix ix' : List ℕ) : Type 0 where
  pub long : length ix' ≡ length ix
  pub same : (x : ℕ) → x < n → get_or ix' x 0 ≡ get_or ix x 0
