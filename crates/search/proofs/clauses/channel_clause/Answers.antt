use mathlib.Core.Path.{sym, ◌∙◌}
use Rattle.condition.proofs.Accepted.{held-channel}
use Rattle.search.proofs.clauses.channel_clause.Goals as goal

pub channel_mover-requires : goal.channel_mover-requires
channel_mover-requires c =
    let r = c.requires in
    (r.0, held-channel _ _ _ _ r.1 (sym c.clause_at.ensures ∙ c.in-Channel.is))
