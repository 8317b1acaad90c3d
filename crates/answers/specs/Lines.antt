-- The lines of an answer, as bytes.
use Rattle.std.specs.Prelude.{Bool, true, false, List, [], ◌∷◌, ◌++◌, ℕ, zero, suc, ℤ, Option, Some, None, Result, Ok, Err}
use Rattle.record.specs.declared.File.{File}
use Rattle.record.specs.declared.File.TheVariants.{Run, Condition}
use Rattle.record.specs.declared.Refusal.{Refusal}
use Rattle.record.specs.Refusal.{number}
use Rattle.search.specs.declared.Outcome.{Outcome}
use Rattle.search.specs.declared.Outcome.TheVariants as O
use Rattle.transit.specs.declared.Load.{Load}
use Rattle.writing.specs.Text.{bytes, signed, spaced, pair_line, row_lines}

unfoldable pub refused_word : File → List ℕ
refused_word Run = bytes "refused run"
refused_word Condition = bytes "refused cond"

unfoldable pub refused_line : Refusal → List ℕ
refused_line x = pair_line (refused_word x.file) (number x.reason) x.place

-- an empty channel has no stamp
unfoldable pub stamp_word : ℕ → ℤ → List ℕ
stamp_word zero x = bytes "-"
stamp_word (suc n) x = signed x

-- a channel, how many messages are on it, and the lowest stamp among them
unfoldable pub channel_line : ℕ → ℕ → ℤ → List ℕ
channel_line i n x = bytes "channel" ++ spaced i ++ spaced n ++ bytes " " ++ stamp_word n x ++ bytes "\n"

-- a line for each place that both rows have, the first of which has the number i
unfoldable pub channel_lines : ℕ → List ℕ → List ℤ → List ℕ
channel_lines i [] stamps = []
channel_lines i (n ∷ counts) [] = []
channel_lines i (n ∷ counts) (x ∷ stamps) = channel_line i n x ++ channel_lines (suc i) counts stamps

-- the state of each process at the cut, and what is on each channel there
unfoldable pub found_lines : List ℕ → List ℕ → List ℤ → List ℕ
found_lines cut counts stamps = bytes "found\n" ++ row_lines (bytes "state") 0 cut ++ channel_lines 0 counts stamps

unfoldable pub answer_lines : Result Outcome Refusal → List ℕ → List ℕ → List ℤ → List ℕ
answer_lines (Ok O.Found) cut counts stamps = found_lines cut counts stamps
answer_lines (Ok O.NoCut) cut counts stamps = bytes "none\n"
answer_lines (Err x) cut counts stamps = refused_line x

unfoldable pub verdict_lines : Result Bool Refusal → List ℕ
verdict_lines (Ok true) = bytes "yes\n"
verdict_lines (Ok false) = bytes "no\n"
verdict_lines (Err x) = refused_line x

-- how many messages are on a channel, and the lowest stamp among them
unfoldable pub count_line : ℕ → ℤ → List ℕ
count_line n x = bytes "count" ++ spaced n ++ bytes " " ++ signed x ++ bytes "\n"

unfoldable pub count_lines : Result (Option Load) Refusal → List ℕ
count_lines (Ok None) = bytes "empty\n"
count_lines (Ok (Some m)) = count_line m.count m.lowest
count_lines (Err x) = refused_line x
