-- Consistency by clocks: for all i and j that differ, place i of j's clock is less than i's chosen number.
use Rattle.std.specs.Prelude.{◌≢◌, List, ℕ, ◌<◌}
use Rattle.model.specs.Run.{Run, processes, IsState}
use Rattle.model.specs.Cut.{ClockIs, at}

-- clock j l i is place i of the clock at state l of process j, for every state
unfoldable pub Clocks : Run → (ℕ → ℕ → ℕ → ℕ) → Type 0
Clocks r clock = (j l i : ℕ) → IsState r j l → i < processes r → ClockIs r j l i (clock j l i)

-- for all i and j that differ, place i of j's clock is less than i's chosen number
unfoldable pub ByClock : Run → (ℕ → ℕ → ℕ → ℕ) → List ℕ → Type 0
ByClock r clock cut = (i j : ℕ) → i < processes r → j < processes r → i ≢ j → clock j (at cut j) i < at cut i
