-- `first_behind` meets its contract: whoever is named has to move, by the law of a false clause or of the clocks.
use Rattle.std.proofs.Common.{rules, ◌≡◌, MatchOption, Some}
use Rattle.run.specs.Index.{clock_in}
use Rattle.cut.specs.Clocks.{too_low, InTable}
use Rattle.search.proofs.Moving.{moved_first, in_table}
use Rattle.search.proofs.Seen.{given_seen}
use Rattle.search.proofs.eliminate.first_behind.Goals as goal

pub or_else-requires : goal.or_else-requires
or_else-requires c =
    let table : InTable c.args.cut.now = in_table (given_seen c.sought.invariant c.sought.view_is) _ c.requires in
    search (rules, c.run.invariant.listed.long)

pub returns : goal.returns
returns c =
    let told : MatchOption c.first_local.result (c.or_else.result ≡ too_low (clock_in c.args.sought.now.index) c.args.cut.now) (λ p. c.or_else.result ≡ Some p) = search (rules, c.run.view_is, c.sought.view_is) in
    moved_first (given_seen c.sought.invariant c.sought.view_is) _ c.requires c.first_local.ensures told
