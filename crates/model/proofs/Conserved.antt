-- At a consistent cut, on each channel, messages sent equal messages received plus messages in transit: nothing is received but not yet sent there.
use mathlib.Core.Path.{◌≡◌, ap}
use mathlib.Core.List.{List}
use Prim.Native.Nat.{ℕ, ◌+◌}
use native.Mathlib.Omega.{arith}
use lib.ListN.{length}
use Rattle.model.specs.Run.{Run, channel}
use Rattle.model.specs.Known.{Known}
use Rattle.model.specs.Cut.{at, IsCut, Consistent, in_transit}
use Rattle.model.specs.Sent.{sent_up_to, received_up_to}
use Rattle.model.specs.NotYetSent.{not_yet_sent}
use Rattle.model.proofs.OneMove.{balance}
use Rattle.model.proofs.Kept.{consistent_none_unsent}

module _ (r : Run) (known : Known r) (c : ℕ) where
  pub conserved : (cut : List ℕ) → IsCut r cut → Consistent r cut
      → length (sent_up_to r cut c) ≡ length (received_up_to r cut c) + length (in_transit r cut c)
  unfolding in_transit not_yet_sent
  conserved cut is ok =
      omega (arith, balance r known c (at cut (channel r c).from) (at cut (channel r c).to), ap length (consistent_none_unsent r known cut is ok c))
