-- What is in transit on each channel at a cut, and what is written into lent places.
use Rattle.std.specs.Prelude.{◌≡◌, List, [], ℕ, ◌≤◌, ◌<◌, ℤ, pos, length, get_or}
use Rattle.model.specs.Run.{Run}
use Rattle.model.specs.Cut.{at, in_transit}
use Rattle.model.specs.LowestStamp.{LowestStamp}
use Rattle.states.specs.States.{tabulate}

-- how many messages are on channel 0, 1, .. at the cut
unfoldable pub on_each : Run → List ℕ → List ℕ
on_each r cut = tabulate (length r.channels) (λ c. length (in_transit r cut c))

-- the row stands in the first places, and those past it are as they were
pub record Wrote (row lent lent' : List ℕ) : Type 0 where
  pub long : length lent' ≡ length lent
  pub front : (i : ℕ) → i < length row → get_or lent' i 0 ≡ at row i
  pub past : (i : ℕ) → length row ≤ i → get_or lent' i 0 ≡ get_or lent i 0

-- a place for each of n channels in both rows
pub record Room (n : ℕ) (row : List ℕ) (beside : List ℤ) : Type 0 where
  pub counts : n ≤ length row
  pub stamps : n ≤ length beside

-- the lowest stamp of what is in transit on each of the first n channels stands in its place; the place of an empty channel, and those past n, are as they were
pub record WroteLowest (r : Run) (cut : List ℕ) (n : ℕ) (stamps stamps' : List ℤ) : Type 0 where
  pub long : length stamps' ≡ length stamps
  pub lowest : (c : ℕ) (x : ℤ) → c < n → LowestStamp (in_transit r cut c) x → get_or stamps' c (pos 0) ≡ x
  pub empty : (c : ℕ) → c < n → in_transit r cut c ≡ [] → get_or stamps' c (pos 0) ≡ get_or stamps c (pos 0)
  pub past : (c : ℕ) → n ≤ c → get_or stamps' c (pos 0) ≡ get_or stamps c (pos 0)
