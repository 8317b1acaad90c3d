-- `first_named` meets its contract: whoever is named has to move, whichever test named it.
use Rattle.search.proofs.Moving.{moved_channels, moved_before}
use Rattle.search.proofs.Seen.{given_seen}
use Rattle.search.proofs.eliminate.first_named.Goals as goal

pub returns-in-None : goal.returns-in-None
returns-in-None c = moved_channels (given_seen c.sought.invariant c.sought.view_is) _ c.requires.0 c.in-None.is c.first_behind.ensures c.first_channel.ensures

pub returns-in_default : goal.returns-in_default
returns-in_default c = moved_before (given_seen c.sought.invariant c.sought.view_is) _ c.requires.0 c.in_default.not-None c.first_behind.ensures
