-- Words of the contracts of the inner functions that judge a whole run; the promises don't use them. Here s are a run's bytes and ix its index.
use Rattle.std.specs.Prelude.{Result, Ok, Err}
use Rattle.record.specs.declared.Refusal.{Refusal}
use Rattle.record.specs.declared.Head.{Head}
use Rattle.std.specs.Prelude.{◌≡◌, cond, List, ℕ, ◌+◌, ◌≤◌, ◌<◌, ltb, length, get_or, Option, Some, None}
use Rattle.model.specs.Cut.{AfterCircle}
use Rattle.model.specs.Known.{Known}
use Rattle.model.specs.Clocks.{Clocks}
use Rattle.record.specs.Record.{head_of}
use Rattle.run.specs.Said.{run_in}
use Rattle.run.specs.Index.{Listed, Fresh, Partnered, clock_in, IndexHolds, index_size, partners_part}
use Rattle.judged.specs.Judged.{Unpaired, WrongClock}
use Rattle.judged.specs.Firsts.{FirstJudged}

-- what the pass leaves of a run of n processes: its states are listed, and nothing else is entered
pub record NewlyListed (s ix : List ℕ) (n : ℕ) : Type 0 where
  pub listed : Listed s ix
  pub fresh : Fresh partners_part ix
  pub all : n ≡ (head_of s).processes

-- an accepted run of n processes with its clocks
pub record Clocked (s ix : List ℕ) (n : ℕ) : Type 0 where
  pub listed : Listed s ix
  pub clocks : Clocks (run_in s) (clock_in ix)
  pub all : n ≡ (head_of s).processes

-- the state behind the last one that is done, or none where all are
unfoldable pub next_of : ℕ → ℕ → Option ℕ
next_of done count = cond (ltb done count) (Some (done + 1)) None

pub record Undone (n : ℕ) (ix done : List ℕ) (bad : List (Option ℕ)) : Type 0 where
  pub next : (p : ℕ) → p < n → get_or bad p None ≡ next_of (get_or done p 0) (get_or ix p 0)

-- tables that have an entry for each of n processes
pub record ProcessRoom (n : ℕ) (ix done : List ℕ) (bad : List (Option ℕ)) : Type 0 where
  pub long : length ix ≡ index_size
  pub eight_done : length done ≡ 8
  pub eight_bad : length bad ≡ 8
  pub few : n ≤ 8
  pub counts : (p : ℕ) → p < n → get_or ix p 0 ≤ 512

-- what the pairing gives: the first fault, or that there is none, and the partners
abbrev pub PairingJudged : (s ix : List ℕ) → Option ℕ → Type 0
PairingJudged s ix = FirstJudged s (Unpaired s) (Known (run_in s) × Partnered (run_in s) ix)

-- what the order gives: the first state that is on a circle or after one, or that there is none, and the clocks
abbrev pub CircleJudged : (s ix : List ℕ) → Option ℕ → Type 0
CircleJudged s ix = FirstJudged s (AfterCircle (run_in s)) (Clocks (run_in s) (clock_in ix))

-- what comparing the clocks gives
abbrev pub ClockJudged : (s : List ℕ) → Option ℕ → Type 0
ClockJudged s = FirstJudged s (WrongClock s) (Unit {0})

-- of an accepted run the index is filled
abbrev pub Ready : (s ix : List ℕ) → Result Head Refusal → Type 0
Ready s ix (Ok h) = IndexHolds s ix
Ready s ix (Err x) = Unit {0}
