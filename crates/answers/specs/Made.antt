-- What a call answers that makes lines in a lent buffer, and what it leaves there.
use Rattle.std.specs.Prelude.{◌≡◌, List, ◌++◌, ℕ, ◌≤◌, ◌<◌, Option, Some, None, length, drop}

-- the lines stand at the front and the rest is as it was; or the buffer is too short for them, and as it was
pub data MadeOf (lines buffer buffer' : List ℕ) : Option ℕ → Type 0 where
  made : length lines ≤ length buffer → buffer' ≡ lines ++ drop (length lines) buffer → MadeOf lines buffer buffer' (Some (length lines))
  too_short : length buffer < length lines → buffer' ≡ buffer → MadeOf lines buffer buffer' None
