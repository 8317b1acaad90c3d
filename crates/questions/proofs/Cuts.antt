-- What the test of a given cut needs beside an accepted run.
use mathlib.Core.Path.{◌≡◌, sym, ap, subst}
use mathlib.Core.List.{List}
use Prim.Native.Nat.{ℕ, ◌≤◌}
use native.Mathlib.Omega.{arith}
use lib.ListN.{length}
use Rattle.record.specs.declared.Head.{Head}
use Rattle.model.specs.Cut.{IsCut}
use Rattle.run.specs.Said.{run_in}
use Rattle.run.specs.Seen.{Seen}
use Rattle.run.specs.Index.{index_size}
use Rattle.run.proofs.Listed.{ok}
use Rattle.judged.specs.Told.{Told}

pub testable : {s ix : List ℕ} {head : Head} → Told s ix head → (length ix ≡ index_size) × (head.processes ≤ 8)
testable {s} w = (w.index.listed.long, omega (arith, ap (λ h. h.processes) w.head, (ok s w.index.listed.read).head.few))

-- what is told of an accepted run with its index holds of what the two hold
module _ {v w : Seen} (e : v ≡ w) where
  pub as_inside : {head : Head} → Told w.run w.index head → Told v.run v.index head
  as_inside {head} told = subst (λ x. Told x.run x.index head) (sym e) told

  pub cut_inside : {cut : List ℕ} → IsCut (run_in w.run) cut → IsCut (run_in v.run) cut
  cut_inside {cut} is_cut = subst (λ x. IsCut (run_in x.run) cut) (sym e) is_cut
