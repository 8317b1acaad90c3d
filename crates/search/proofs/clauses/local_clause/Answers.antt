use mathlib.Core.Path.{sym, ◌∙◌}
use Rattle.condition.proofs.Accepted.{held_local}
use Rattle.search.proofs.clauses.local_clause.Goals as goal

pub local_mover-requires : goal.local_mover-requires
local_mover-requires c =
    let r = c.requires in
    (r.0, held_local _ _ _ _ r.1 (sym c.clause_at.ensures ∙ c.in-Local.is))
