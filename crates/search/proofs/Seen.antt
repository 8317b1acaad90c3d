-- What a cut is sought by, as contracts see it.
use mathlib.Core.Path.{◌≡◌, subst}
use mathlib.Core.List.{List}
use Prim.Native.Nat.{ℕ}
use Rattle.search.specs.Search.{Given}
use Rattle.search.specs.Sought.{SoughtSeen}

pub given_seen : {s c ix qs : List ℕ} {v : SoughtSeen} → Given s c ix qs → record { run = s; index = ix; cond = c; clauses = qs } ≡ v → Given v.run v.cond v.index v.clauses
given_seen {v = v} g e = subst (λ (v : SoughtSeen). Given v.run v.cond v.index v.clauses) e g
