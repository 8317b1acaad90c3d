use Rattle.std.proofs.Common.{rules, MatchOption, ◌≡◌}
use Rattle.transit.proofs.Loads.{load_count}
use Rattle.transit.proofs.scan.count_in.Goals as goal

pub returns : goal.returns
returns c =
    let told : MatchOption c.args.load (c.map_or.result ≡ 0) (λ l. c.map_or.result ≡ l.count) = search rules in
    λ ms w. load_count w told
