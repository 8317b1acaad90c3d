-- Room for each state of an accepted run, and its values where its record stands.
use mathlib.Core.Path.{◌≡◌, sym, ap, ◌∙◌, subst}
use mathlib.Core.List.{List}
use Prim.Native.Nat.{ℕ, ◌+◌, ◌≤◌, ◌<◌}
use native.Mathlib.Omega.{arith}
use lib.IntN.{pos}
use lib.ListN.{length, get_or}
use Rattle.model.specs.Run.{state, processes, IsState}
use Rattle.record.specs.Bytes.{i32_at}
use Rattle.record.specs.Layout.{value_count, value_place}
use Rattle.states.specs.States.{state_at}
use Rattle.states.proofs.Tabulate.{tabulate-at}
use Rattle.run.specs.Said.{run_in, place_of}
use Rattle.run.specs.Index.{IndexHolds}
use Rattle.run.specs.Seen.{Seen}
use Rattle.run.proofs.Listed.{ok, processes_are, listed_slot, place_whole, state_is}

-- of an accepted run with its index, as contracts see it
pub holds_seen : {s ix : List ℕ} {v : Seen} → IndexHolds s ix → record { run = s; index = ix } ≡ v → IndexHolds v.run v.index
holds_seen {v = v} w e = subst (λ (v : Seen). IndexHolds v.run v.index) e w

module _ {s ix : List ℕ} (w : IndexHolds s ix) where
  pub processes_few : processes (run_in s) ≤ 8
  processes_few = omega (arith, processes_are s w.listed.read, (ok s w.listed.read).head.few)

  pub states_few : {p k : ℕ} → IsState (run_in s) p k → k ≤ 512
  states_few is = (listed_slot _ _ w.listed is).few

  module _ (p k : ℕ) (is : IsState (run_in s) p k) (v : ℕ) (h : v < value_count) where
    -- the value's four bytes are there
    pub value_whole : place_of s p k + value_place v + 4 ≤ length s
    value_whole = omega (arith, place_whole s w.listed.read p k is)

    pub value_is : i32_at s (place_of s p k + value_place v) ≡ get_or (state (run_in s) p k).values v (pos 0)
    unfolding state_at
    value_is =
        let q = place_of s p k in
        sym (ap (λ t. get_or t.values v (pos 0)) (state_is s w.listed.read p k is) ∙ tabulate-at value_count (λ v. i32_at s (q + value_place v)) v (pos 0) h)
