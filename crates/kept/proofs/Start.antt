-- At the start, state 1 everywhere, both numbers are 0 on every channel: no first state sends or receives.
use mathlib.Core.Path.{◌≡◌, sym, ◌∙◌}
use mathlib.Core.Logic.{⊎_elim}
use Prim.Native.Nat.{ℕ, suc, ◌≤◌}
use native.Mathlib.Omega.{arith}
use lib.ListN.{length, replicate, length-replicate, get_or-replicate, get_or-eq_default}
use Rattle.model.proofs.Lists.{le_or_lt}
use Rattle.model.specs.Run.{Run, processes, channel}
use Rattle.model.specs.Known.{Known}
use Rattle.model.specs.Cut.{at, in_transit}
use Rattle.model.specs.NotYetSent.{not_yet_sent}
use Rattle.model.proofs.OneMove.{kept_start}
use Rattle.kept.specs.Kept.{CountsKept}

at_one : (n i : ℕ) → at (replicate n 1) i ≤ 1
at_one n i = ⊎_elim
    (λ h. omega (arith, get_or-replicate {A = ℕ} n i 1 0 h))
    (λ h. omega (arith, get_or-eq_default {A = ℕ} (replicate n 1) 0 {n = i} (omega (arith, length-replicate {A = ℕ} n 1))))
    (le_or_lt (suc i) n)

pub start_kept : (r : Run) → Known r → (n : ℕ) → length r.channels ≤ n → CountsKept r (replicate (processes r) 1) (replicate n 0) (replicate n 0)
unfolding in_transit not_yet_sent
start_kept r known n h = record {
  first = record { room = omega (arith, length-replicate {A = ℕ} n 0); each = λ c g. get_or-replicate {A = ℕ} n c 0 0 (omega arith) ∙ sym (none c).0 };
  second = record { room = omega (arith, length-replicate {A = ℕ} n 0); each = λ c g. get_or-replicate {A = ℕ} n c 0 0 (omega arith) ∙ sym (none c).1 };
}
  where
    none : (c : ℕ) → (length (in_transit r (replicate (processes r) 1) c) ≡ 0) × (length (not_yet_sent r (replicate (processes r) 1) c) ≡ 0)
    none c = kept_start r known c _ _ (at_one (processes r) (channel r c).from) (at_one (processes r) (channel r c).to)
