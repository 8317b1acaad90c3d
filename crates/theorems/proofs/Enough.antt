-- The programs make their lines in 1024 bytes, for at most eight states and sixteen channels. That is always enough, so they never keep an answer back.
use mathlib.Core.List.{List}
use Prim.Native.Nat.{ℕ, ◌^◌, ◌≤◌, ◌<◌}
use native.Mathlib.Omega.{arith}
use lib.IntN.{ℤ, pos}
use lib.ListN.{length, get_or, length-append}
use mir.Syntax.{w32}
use mir.Val.{SFits}
use Rattle.std.specs.Prelude.{Bool, true, false, Option, Some, None, Result, Ok, Err}
use Rattle.record.specs.declared.File.{File}
use Rattle.record.specs.declared.File.TheVariants.{Run, Condition}
use Rattle.record.specs.Refusal.{number}
use Rattle.record.specs.declared.Refusal.{Refusal}
use Rattle.search.specs.declared.Outcome.{Outcome}
use Rattle.search.specs.declared.Outcome.TheVariants as O
use Rattle.transit.specs.declared.Load.{Load}
use Rattle.writing.specs.Text.{bytes}
use Rattle.answers.specs.Lines.{refused_word, refused_line, found_lines, answer_lines, verdict_lines, count_lines}
use Rattle.answers.proofs.ChannelLines.{channel_lines_short, count_line_long}
use Rattle.writing.proofs.Lengths.{decimal_short, signed_short, pair_line_long, row_lines_short}

-- ---- numbers are no larger than their types hold, and a cut that is found is one of an accepted run

abbrev pub SmallRow : List ℕ → Type 0
SmallRow row = (k : ℕ) → get_or row k 0 < 65536

abbrev pub SmallStamps : List ℤ → Type 0
SmallStamps stamps = (k : ℕ) → SFits w32 (get_or stamps k (pos 0))

abbrev pub SmallRefusal : Refusal → Type 0
SmallRefusal x = (number x.reason < 65536) × (x.place < 2 ^ 64)

abbrev pub SmallAnswer : Result Outcome Refusal → List ℕ → List ℕ → List ℤ → Type 0
SmallAnswer (Ok O.Found) cut counts stamps = (length cut ≤ 8) × (length counts ≤ 16) × SmallRow cut × SmallRow counts × SmallStamps stamps
SmallAnswer (Ok O.NoCut) cut counts stamps = Unit {0}
SmallAnswer (Err x) cut counts stamps = SmallRefusal x

abbrev pub SmallVerdict : Result Bool Refusal → Type 0
SmallVerdict (Ok true) = Unit {0}
SmallVerdict (Ok false) = Unit {0}
SmallVerdict (Err x) = SmallRefusal x

abbrev pub SmallCount : Result (Option Load) Refusal → Type 0
SmallCount (Ok None) = Unit {0}
SmallCount (Ok (Some m)) = (m.count < 2 ^ 64) × SFits w32 m.lowest
SmallCount (Err x) = SmallRefusal x

-- ---- and so their lines are short

word_short : (f : File) → length (refused_word f) ≤ 12
unfolding refused_word bytes
word_short Run = omega arith
word_short Condition = omega arith

refused_short : (x : Refusal) → SmallRefusal x → length (refused_line x) ≤ 1024
unfolding refused_line
refused_short x (few, place) =
    let line = pair_line_long (refused_word x.file) (number x.reason) x.place in
    omega (arith, line, word_short x.file, decimal_short 4 (number x.reason) (omega arith), decimal_short 19 x.place (omega arith))

found_short : (cut counts : List ℕ) (stamps : List ℤ) → length cut ≤ 8 → length counts ≤ 16 → SmallRow cut → SmallRow counts → SmallStamps stamps
    → length (found_lines cut counts stamps) ≤ 1024
unfolding found_lines bytes
found_short cut counts stamps h g small small' fits =
    let states = row_lines_short (bytes "state") 0 cut (omega arith) small in
    let channels = channel_lines_short 1 counts stamps (omega arith) small' fits in
    simp length-append (omega (arith, states, channels))

pub answers_short : (a : Result Outcome Refusal) (cut counts : List ℕ) (stamps : List ℤ) → SmallAnswer a cut counts stamps → length (answer_lines a cut counts stamps) ≤ 1024
unfolding answer_lines bytes
answers_short (Ok O.Found) cut counts stamps (h, g, small, small', fits) = found_short cut counts stamps h g small small' fits
answers_short (Ok O.NoCut) cut counts stamps _ = omega arith
answers_short (Err x) cut counts stamps held = refused_short x held

pub verdicts_short : (a : Result Bool Refusal) → SmallVerdict a → length (verdict_lines a) ≤ 1024
unfolding verdict_lines bytes
verdicts_short (Ok true) _ = omega arith
verdicts_short (Ok false) _ = omega arith
verdicts_short (Err x) held = refused_short x held

pub counts_short : (a : Result (Option Load) Refusal) → SmallCount a → length (count_lines a) ≤ 1024
unfolding count_lines bytes
counts_short (Ok None) _ = omega arith
counts_short (Ok (Some m)) (held, fits) = omega (arith, count_line_long m.count m.lowest, decimal_short 19 m.count (omega arith), signed_short m.lowest fits)
counts_short (Err x) held = refused_short x held
