-- `list_channels` meets its contract. The invariant of its loop: the channels so far have their numbers and lowest stamps in the first places, and the other places are as they were.
use lib.ListN.{length}
use Rattle.model.specs.Cut.{in_transit}
use Rattle.run.specs.Said.{run_in}
use Rattle.cut.specs.Listing.{WroteLowest}
use Rattle.cut.proofs.Writing.{Filled}
use Rattle.cut.proofs.listing.list_channels.Given as goal

abbrev pub invariant-loop-channel : goal.invariant-loop-channel
invariant-loop-channel l =
    Filled (λ c. length (in_transit (run_in l.run.run) l.cut c)) l.channel l.initial.counts l.counts × WroteLowest (run_in l.run.run) l.cut l.channel l.initial.stamps l.stamps
