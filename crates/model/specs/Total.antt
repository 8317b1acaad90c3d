-- What the numbers of a list add up to: a measure, which no promise uses.
use Rattle.std.specs.Prelude.{List, [], ◌∷◌, ℕ, ◌+◌}

unfoldable pub total : List ℕ → ℕ
total [] = 0
total (x ∷ xs) = x + total xs
