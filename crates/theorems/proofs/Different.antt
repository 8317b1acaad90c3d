-- Two different answers never have the same lines: whoever reads the lines knows the answer, as far as it is printed.
use mathlib.Core.Path.{◌≡◌, refl, sym, ap, ◌∙◌}
use mathlib.Core.List.{List, [], ◌∷◌, ◌++◌}
use Prim.Native.Nat.{ℕ, zero, suc, ◌<◌}
use native.Mathlib.Omega.{arith}
use lib.IntN.{ℤ, pos, negsuc}
use lib.ListN.{length, take, drop, get_or}
use lib.Seq.{take_all, take-nil}
use Rattle.std.specs.Prelude.{Bool, true, false, Option, Some, None, Result, Ok, Err}
use Rattle.record.specs.declared.File.{File}
use Rattle.record.specs.declared.File.TheVariants.{Run, Condition}
use Rattle.record.specs.declared.Refusal.{Refusal}
use Rattle.search.specs.declared.Outcome.{Outcome}
use Rattle.search.specs.declared.Outcome.TheVariants as O
use Rattle.transit.specs.declared.Load.{Load}
use Rattle.record.specs.Refusal.{number, refusal}
use Rattle.record.specs.declared.reasons.Reason.TheVariants.{NotLinear}
use Rattle.writing.specs.Text.{bytes, digits, decimal, signed, spaced, pair_line, row_lines}
use Rattle.answers.specs.Lines.{refused_word, refused_line, stamp_word, channel_line, channel_lines, found_lines, answer_lines, verdict_lines, count_line, count_lines}
use Rattle.answers.proofs.ChannelLines.{channel_line_same, count_line_same}
use Rattle.writing.proofs.Decimal.{decimal_made}
use Rattle.writing.proofs.Reading.{pair_line_same, rows_same}

-- ---- the same as far as it is printed

-- whether the record stands after the end isn't printed
pub record SameRefusal (x y : Refusal) : Type 0 where
  pub file : x.file ≡ y.file
  pub number : number x.reason ≡ number y.reason
  pub place : x.place ≡ y.place

-- A channel is printed if both rows have its place, and so the whole rows where they are of the same length (`whole_rows`). What stands at an empty channel in
-- place of a stamp isn't printed.
pub record SameChannels (counts : List ℕ) (stamps : List ℤ) (counts' : List ℕ) (stamps' : List ℤ) : Type 0 where
  pub counted : take (length stamps) counts ≡ take (length stamps') counts'
  pub stamped : (k : ℕ) → k < length stamps → (get_or counts k 0 ≡ 0 → ⊥) → get_or stamps k (pos 0) ≡ get_or stamps' k (pos 0)

-- the rows are those of a found cut
pub data SameAnswer (cut counts : List ℕ) (stamps : List ℤ) (cut' counts' : List ℕ) (stamps' : List ℤ) : Result Outcome Refusal → Result Outcome Refusal → Type 0 where
  found : cut ≡ cut' → SameChannels counts stamps counts' stamps' → SameAnswer cut counts stamps cut' counts' stamps' (Ok O.Found) (Ok O.Found)
  none : SameAnswer cut counts stamps cut' counts' stamps' (Ok O.NoCut) (Ok O.NoCut)
  refused : {x y : Refusal} → SameRefusal x y → SameAnswer cut counts stamps cut' counts' stamps' (Err x) (Err y)

pub data SameVerdict : Result Bool Refusal → Result Bool Refusal → Type 0 where
  yes : SameVerdict (Ok true) (Ok true)
  no : SameVerdict (Ok false) (Ok false)
  refused : {x y : Refusal} → SameRefusal x y → SameVerdict (Err x) (Err y)

pub data SameCount : Result (Option Load) Refusal → Result (Option Load) Refusal → Type 0 where
  empty : SameCount (Ok None) (Ok None)
  messages : {a b : Load} → a.count ≡ b.count → a.lowest ≡ b.lowest → SameCount (Ok (Some a)) (Ok (Some b))
  refused : {x y : Refusal} → SameRefusal x y → SameCount (Err x) (Err y)

-- ---- the words differ

-- lines that differ at byte i
differ : (i : ℕ) {x y : List ℕ} → (get_or x i 0 ≡ get_or y i 0 → ⊥) → x ≡ y → ⊥
differ i p e = p (ap (λ l. get_or l i 0) e)

file_same : (f g : File) (a b c d : ℕ) → pair_line (refused_word f) a b ≡ pair_line (refused_word g) c d → f ≡ g
unfolding pair_line refused_word bytes
file_same Run Run a b c d e = refl
file_same Run Condition a b c d e = absurd (differ 8 (λ z. omega arith) e)
file_same Condition Run a b c d e = absurd (differ 8 (λ z. omega arith) e)
file_same Condition Condition a b c d e = refl

refused_same : (x y : Refusal) → refused_line x ≡ refused_line y → SameRefusal x y
unfolding refused_line
refused_same x y e =
    let f = file_same x.file y.file (number x.reason) x.place (number y.reason) y.place e in
    let line = ap (λ l. l ++ []) (e ∙ ap (λ g. pair_line (refused_word g) (number y.reason) y.place) (sym f)) in
    let (same, place, _) = pair_line_same (refused_word x.file) (number x.reason) x.place (number y.reason) y.place [] [] line in
    record { file = f; number = same; place = place }

refused_first : (x : Refusal) → get_or (refused_line x) 0 0 ≡ 114
unfolding refused_line pair_line refused_word bytes
refused_first x = go x.file
  where
    go : (f : File) → get_or (pair_line (refused_word f) (number x.reason) x.place) 0 0 ≡ 114
    go Run = refl
    go Condition = refl

no_refusal : (x : Refusal) {s : List ℕ} → (get_or s 0 0 ≡ 114 → ⊥) → s ≡ refused_line x → ⊥
no_refusal x p e = p (ap (λ l. get_or l 0 0) e ∙ refused_first x)

-- after the lines of the states comes no line of a state
no-state : (counts : List ℕ) (stamps : List ℤ) (z : List ℕ) → channel_lines 0 counts stamps ≡ 115 ∷ z → ⊥
unfolding channel_lines channel_line bytes
no-state [] stamps z = differ 0 (λ d. omega arith)
no-state (n ∷ counts) [] z = differ 0 (λ d. omega arith)
no-state (n ∷ counts) (x ∷ stamps) z = differ 0 (λ d. omega arith)

-- ---- the channels

no_line : (i n : ℕ) (x : ℤ) (s : List ℕ) → channel_line i n x ++ s ≡ [] → ⊥
unfolding channel_line bytes
no_line i n x s = differ 0 (λ d. omega arith)

no_channels : (i : ℕ) (counts : List ℕ) (stamps : List ℤ) → channel_lines i counts stamps ≡ [] → take (length stamps) counts ≡ []
unfolding channel_lines
no_channels i [] stamps e = take-nil (length stamps)
no_channels i (n ∷ counts) [] e = refl
no_channels i (n ∷ counts) (x ∷ stamps) e = absurd (no_line i n x _ e)

next_same : {n m : ℕ} {x y : ℤ} {counts counts' : List ℕ} {stamps stamps' : List ℤ} → n ≡ m → ((n ≡ 0 → ⊥) → x ≡ y)
    → SameChannels counts stamps counts' stamps' → SameChannels (n ∷ counts) (x ∷ stamps) (m ∷ counts') (y ∷ stamps')
next_same {n} {m} {x} {y} {counts} {counts'} {stamps} {stamps'} count stamp rest = record { counted = let e = rest.counted in cc; stamped = go }
  where
    go : (k : ℕ) → k < suc (length stamps) → (get_or (n ∷ counts) k 0 ≡ 0 → ⊥) → get_or (x ∷ stamps) k (pos 0) ≡ get_or (y ∷ stamps') k (pos 0)
    go zero h p = stamp p
    go (suc k) h p = rest.stamped k (omega arith) p

channels_same : (i : ℕ) (counts : List ℕ) (stamps : List ℤ) (counts' : List ℕ) (stamps' : List ℤ)
    → channel_lines i counts stamps ≡ channel_lines i counts' stamps' → SameChannels counts stamps counts' stamps'
unfolding channel_lines
channels_same i [] stamps counts' stamps' e = record {
  counted = take-nil (length stamps) ∙ sym (no_channels i counts' stamps' (sym e));
  stamped = λ k h p. absurd (p refl);
}
channels_same i (n ∷ counts) [] counts' stamps' e = record {
  counted = sym (no_channels i counts' stamps' (sym e));
  stamped = λ k h p. absurd (omega arith);
}
channels_same i (n ∷ counts) (x ∷ stamps) [] stamps' e = absurd (no_line i n x _ e)
channels_same i (n ∷ counts) (x ∷ stamps) (m ∷ counts') [] e = absurd (no_line i n x _ e)
channels_same i (n ∷ counts) (x ∷ stamps) (m ∷ counts') (y ∷ stamps') e =
    let (count, stamp, others) = channel_line_same i n m x y (channel_lines (suc i) counts stamps) (channel_lines (suc i) counts' stamps') e in
    next_same count stamp (channels_same (suc i) counts stamps counts' stamps' others)

found_same : (cut counts : List ℕ) (stamps : List ℤ) (cut' counts' : List ℕ) (stamps' : List ℤ)
    → found_lines cut counts stamps ≡ found_lines cut' counts' stamps' → (cut ≡ cut') × SameChannels counts stamps counts' stamps'
unfolding found_lines bytes
found_same cut counts stamps cut' counts' stamps' e =
    let channels = channel_lines 0 counts stamps in
    let channels' = channel_lines 0 counts' stamps' in
    let (cuts, rest) = rows_same 115 (bytes "tate") 0 cut cut' channels channels' (no-state counts stamps) (no-state counts' stamps') (ap (drop 6) e) in
    (cuts, channels_same 0 counts stamps counts' stamps' rest)

pub whole_rows : {counts : List ℕ} {stamps : List ℤ} {counts' : List ℕ} {stamps' : List ℤ} → length counts ≡ length stamps → length counts' ≡ length stamps'
    → SameChannels counts stamps counts' stamps' → counts ≡ counts'
whole_rows {counts} {stamps} {counts'} {stamps'} h h' same =
    sym (take_all (length stamps) counts (omega arith)) ∙ same.counted ∙ take_all (length stamps') counts' (omega arith)

-- ---- the answers

module _ (cut counts : List ℕ) (stamps : List ℤ) (cut' counts' : List ℕ) (stamps' : List ℤ) where
  pub answers_differ : (a b : Result Outcome Refusal) → answer_lines a cut counts stamps ≡ answer_lines b cut' counts' stamps'
      → SameAnswer cut counts stamps cut' counts' stamps' a b
  unfolding answer_lines found_lines bytes
  answers_differ (Ok O.Found) (Ok O.Found) e = let (cuts, channels) = found_same cut counts stamps cut' counts' stamps' e in found cuts channels
  answers_differ (Ok O.Found) (Ok O.NoCut) e = absurd (differ 0 (λ z. omega arith) e)
  answers_differ (Ok O.Found) (Err y) e = absurd (no_refusal y (λ z. omega arith) e)
  answers_differ (Ok O.NoCut) (Ok O.Found) e = absurd (differ 0 (λ z. omega arith) e)
  answers_differ (Ok O.NoCut) (Ok O.NoCut) e = none
  answers_differ (Ok O.NoCut) (Err y) e = absurd (no_refusal y (λ z. omega arith) e)
  answers_differ (Err x) (Ok O.Found) e = absurd (no_refusal x (λ z. omega arith) (sym e))
  answers_differ (Err x) (Ok O.NoCut) e = absurd (no_refusal x (λ z. omega arith) (sym e))
  answers_differ (Err x) (Err y) e = refused (refused_same x y e)

pub verdicts_differ : (a b : Result Bool Refusal) → verdict_lines a ≡ verdict_lines b → SameVerdict a b
unfolding verdict_lines bytes
verdicts_differ (Ok true) (Ok true) e = yes
verdicts_differ (Ok true) (Ok false) e = absurd (differ 0 (λ z. omega arith) e)
verdicts_differ (Ok true) (Err y) e = absurd (no_refusal y (λ z. omega arith) e)
verdicts_differ (Ok false) (Ok true) e = absurd (differ 0 (λ z. omega arith) e)
verdicts_differ (Ok false) (Ok false) e = no
verdicts_differ (Ok false) (Err y) e = absurd (no_refusal y (λ z. omega arith) e)
verdicts_differ (Err x) (Ok true) e = absurd (no_refusal x (λ z. omega arith) (sym e))
verdicts_differ (Err x) (Ok false) e = absurd (no_refusal x (λ z. omega arith) (sym e))
verdicts_differ (Err x) (Err y) e = refused (refused_same x y e)

pub counts_differ : (a b : Result (Option Load) Refusal) → count_lines a ≡ count_lines b → SameCount a b
unfolding count_lines count_line bytes
counts_differ (Ok None) (Ok None) e = empty
counts_differ (Ok None) (Ok (Some m)) e = absurd (differ 0 (λ z. omega arith) e)
counts_differ (Ok None) (Err y) e = absurd (no_refusal y (λ z. omega arith) e)
counts_differ (Ok (Some n)) (Ok None) e = absurd (differ 0 (λ z. omega arith) e)
counts_differ (Ok (Some n)) (Ok (Some m)) e = let (counts, stamps) = count_line_same n.count m.count n.lowest m.lowest e in messages counts stamps
counts_differ (Ok (Some n)) (Err y) e = absurd (no_refusal y (λ z. omega arith) e)
counts_differ (Err x) (Ok None) e = absurd (no_refusal x (λ z. omega arith) (sym e))
counts_differ (Err x) (Ok (Some m)) e = absurd (no_refusal x (λ z. omega arith) (sym e))
counts_differ (Err x) (Err y) e = refused (refused_same x y e)

-- ---- the lines as the paper has them

pub found-lines : answer_lines (Ok O.Found) (2 ∷ 1 ∷ []) (1 ∷ []) (pos 5 ∷ []) ≡ bytes "found\nstate 0 2\nstate 1 1\nchannel 0 1 5\n"
unfolding answer_lines found_lines row_lines pair_line channel_lines channel_line stamp_word signed spaced decimal digits bytes
found-lines = refl

pub empty_channel_line : channel_line 0 0 (pos 5) ≡ bytes "channel 0 0 -\n"
unfolding channel_line stamp_word spaced decimal digits bytes
empty_channel_line = refl

-- a number so large can't be computed by the definition: it is said by its ten digits
lowest_number : signed (negsuc 2147483647) ≡ bytes "-2147483648"
unfolding signed bytes
lowest_number = ap (λ l. 45 ∷ l) (sym (decimal_made {k = 10} (omega arith, omega arith, λ h. omega arith)))

pub lowest_channel_line : channel_line 0 1 (negsuc 2147483647) ≡ bytes "channel 0 1 -2147483648\n"
unfolding channel_line stamp_word spaced decimal digits bytes
lowest_channel_line = rw lowest_number refl

pub refused_lines : answer_lines (Err (refusal Condition NotLinear 65530)) [] [] [] ≡ bytes "refused cond 14 65530\n"
unfolding answer_lines refused_line refused_word pair_line spaced decimal digits bytes
refused_lines = refl

pub count-lines : count_lines (Ok (Some (record { count = 100; lowest = negsuc 4 }))) ≡ bytes "count 100 -5\n"
unfolding count_lines count_line signed spaced decimal digits bytes
count-lines = refl

pub empty_lines : count_lines (Ok None) ≡ bytes "empty\n"
unfolding count_lines bytes
empty_lines = refl
