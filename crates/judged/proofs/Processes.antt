-- What the index has of a process: its number of states, and an entry for each.
use mathlib.Core.Path.{◌≡◌, refl, sym, ap, ◌∙◌}
use mathlib.Core.List.{List}
use Prim.Native.Nat.{ℕ, ◌≤◌, ◌<◌}
use native.Mathlib.Omega.{arith}
use lib.ListN.{length, get_or}
use Rattle.model.specs.declared.Message.{Message}
use Rattle.model.specs.declared.Event.TheVariants.{Receive}
use Rattle.model.specs.declared.Channel.{Channel}
use Rattle.model.specs.Run.{Run, count, channel, into, IsState}
use Rattle.record.specs.Record.{head_of}
use Rattle.states.specs.States.{channel_at}
use Rattle.run.specs.Said.{run_in}
use Rattle.run.specs.Index.{slot, Listed}
use Rattle.judged.specs.Pairing.{Stretch}
use Rattle.run.proofs.Listed.{ok, sides, channels_are, channel_is, listed_eight, listed_few, listed_slot, listed_count}

-- few enough states that each has its own entry
abbrev pub Small : Run → Type 0
Small r = (i k : ℕ) → IsState r i k → (i < 8) × (k ≤ 512)

pub slot_one : (r : Run) → Small r → {i k j l : ℕ} → IsState r i k → IsState r j l → slot i k ≡ slot j l → (i ≡ j) × (k ≡ l)
slot_one r small {i} {k} {j} {l} w v e =
    let (a, b) = small i k w in
    let (c, d) = small j l v in
    let x = w.counted in
    let y = v.counted in
    let p : i ≡ j = omega arith in
    (p, omega arith)

-- where the index has a process
pub record RowOf (s ix : List ℕ) (p : ℕ) : Type 0 where
  pub eight : p < 8
  pub counted : get_or ix p 0 ≡ count (run_in s) p
  pub few : count (run_in s) p ≤ 512

pub row_of : {s ix : List ℕ} {n p : ℕ} → Listed s ix → n ≡ (head_of s).processes → p < n → RowOf s ix p
row_of {s} {ix} {n} {p} w e l =
    let h : p < (head_of s).processes = omega arith in
    record { eight = listed_eight s ix w p h; counted = listed_count s ix w p h; few = listed_few s ix w p h }

-- a state that a walk over the states of a process comes to
pub state_here : {s ix : List ℕ} {p n k : ℕ} → Listed s ix → p < (head_of s).processes → n ≡ get_or ix p 0 → 1 ≤ k → k ≤ n → IsState (run_in s) p k
state_here {s} {ix} {p} w h e a b = record { counted = a; there = omega (arith, e, listed_count s ix w p h) }

-- the sender of a channel, as the channel's record says it
pub record SenderIs (s ix : List ℕ) (c f : ℕ) : Type 0 where
  pub same : f ≡ (channel (run_in s) c).from
  pub there : f < (head_of s).processes
  pub row : RowOf s ix f
  pub counted : get_or ix f 0 ≡ count (run_in s) (channel (run_in s) c).from

pub sender_of : {s ix : List ℕ} {c : ℕ} {e : Channel} → Listed s ix → c < (head_of s).channels → e ≡ channel_at s c → SenderIs s ix c e.from
sender_of {s} {c = c} {e = e} w h z =
    let there : e.from < (head_of s).processes = rw (ap (λ x. x.from) z) ((ok s w.read).channels c h).from in
    let same = ap (λ x. x.from) (z ∙ sym (channel_is s w.read c h)) in
    let row = row_of w refl there in
    record { same = same; there = there; row = row; counted = row.counted ∙ ap (count (run_in s)) same }

-- a message that is received is on a channel of the run
pub on_channel : {s ix : List ℕ} (p k : ℕ) {m : Message} → Listed s ix → into (run_in s) p k ≡ Receive m → (m.channel < length (run_in s).channels) × (m.channel < (head_of s).channels)
on_channel {s} p k {m} w e =
    let there : m.channel < length (run_in s).channels = ((sides s w.read).receiver p k m e).0 in
    (there, omega (arith, there, channels_are s w.read))

-- the states of the sender of a channel, from state low on
pub sender_stretch : {s ix : List ℕ} {c f low n : ℕ} → Listed s ix → SenderIs s ix c f → n ≡ get_or ix f 0 → 1 ≤ low → Stretch s ix f low n
sender_stretch w f e h = record { listed = w; process = f.there; first = h; last = omega (arith, f.row.counted) }

pub small_run : {s ix : List ℕ} → Listed s ix → Small (run_in s)
small_run {s} {ix} w i k t = let h = listed_slot s ix w t in (h.process, h.few)
