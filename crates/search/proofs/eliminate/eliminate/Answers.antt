-- `eliminate` meets its contract. The invariant of its loop: the cut is one of the run, at or below every satisfying cut; the kept numbers are those of the
-- cut, in rows of the lengths they had. The measure is 4,096 less what the cut's numbers add up to.
use native.Mathlib.Omega.{arith}
use mathlib.Core.Path.{sym, ap, subst, ◌∙◌}
use mathlib.Core.List.{List}
use Prim.Native.Nat.{ℕ, ◌<◌}
use lib.ListN.{get_or}
use Rattle.model.specs.Run.{count}
use Rattle.model.specs.NotYetSent.{move_on}
use Rattle.record.specs.Record.{head_of}
use Rattle.run.specs.Said.{run_in}
use Rattle.kept.specs.Kept.{CountsKept, MayMove}
use Rattle.search.specs.Sought.{SoughtSeen}
use Rattle.search.proofs.Seen.{given_seen}
use Rattle.search.proofs.Moving.{Located, search_found, moved_process, search_none, search_move, search_less}
use Rattle.search.proofs.eliminate.eliminate.Goals as goal
use Rattle.search.proofs.eliminate.eliminate.Goals.{In-Some}

-- where who is named stands
mover : (c : In-Some) → Located (given_seen c.sought.invariant c.sought.view_is) c.loop-p.cut c.loop-p.invariant.0 c.in-Some.p
mover c = moved_process (given_seen c.sought.invariant c.sought.view_is) c.loop-p.cut c.loop-p.invariant.0 c.in-Some.is c.first_named.ensures

pub first_named-requires : goal.first_named-requires
first_named-requires c = (c.loop-p.invariant.0, record { is_cut = c.loop-p.invariant.0.is_cut; each = c.loop-p.invariant.1.first })

pub offset_bounds-cut-p : goal.offset_bounds-cut-p
offset_bounds-cut-p c =
    let found = mover (goal.at.offset_bounds-cut-p c).In-Some in
    omega (arith, found.row)

pub bounds-cut-p : goal.bounds-cut-p
bounds-cut-p c =
    let found = mover (goal.at.bounds-cut-p c).In-Some in
    omega (arith, found.inside)

pub overflow_cast-p : goal.overflow_cast-p
overflow_cast-p c =
    let found = mover (goal.at.overflow_cast-p c).In-Some in
    record { fits = omega (arith, found.row) }

pub count-requires : goal.count-requires
count-requires c =
    let found = mover (goal.at.count-requires c).In-Some in
    subst (λ (s : List ℕ). c.in-Some.p < (head_of s).processes) (sym (ap (λ (v : SoughtSeen). v.run) c.sought.view_is)) found.headed

pub bring_forward-requires : goal.bring_forward-requires
bring_forward-requires c =
    let found = mover (goal.at.bring_forward-requires c).In-Some in
    let further : get_or c.loop-p.cut c.in-Some.p 0 < count (run_in c.args.sought.now.run) c.in-Some.p = omega (arith, c.count.ensures, ap (λ (v : SoughtSeen). count (run_in v.run) c.in-Some.p) c.sought.view_is, c.if-count-at.false) in
    subst (λ s. MayMove s c.loop-p.cut c.in-Some.p × CountsKept (run_in s) c.loop-p.cut c.loop-p.counts c.loop-p.unsent) (sym (ap (λ (v : SoughtSeen). v.run) c.sought.view_is))
    (record { is_cut = c.loop-p.invariant.0.is_cut; process = found.there; further = further }, c.loop-p.invariant.1)

pub bounds-cut-p-in-loop-p : goal.bounds-cut-p-in-loop-p
bounds-cut-p-in-loop-p c =
    let found = mover (goal.at.bounds-cut-p-in-loop-p c).In-Some in
    omega (arith, found.inside)

pub loop-p-preserved : goal.loop-p-preserved
loop-p-preserved c =
    let found = mover (goal.at.loop-p-preserved c).In-Some in
    let further : get_or c.loop-p.cut c.in-Some.p 0 < count (run_in c.args.sought.now.run) c.in-Some.p = omega (arith, c.count.ensures, ap (λ (v : SoughtSeen). count (run_in v.run) c.in-Some.p) c.sought.view_is, c.if-count-at.false) in (
      search_move (given_seen c.sought.invariant c.sought.view_is) c.loop-p.cut c.loop-p.invariant.0 _ found.there found.must further,
      subst (λ (v : SoughtSeen). CountsKept (run_in v.run) (move_on c.loop-p.cut c.in-Some.p) c.bring_forward.new.counts c.bring_forward.new.unsent) c.sought.view_is c.bring_forward.ensures,
      c.bring_forward.auto.counts ∙ c.loop-p.invariant.2,
      c.bring_forward.auto.unsent ∙ c.loop-p.invariant.3,
    )

pub loop-p-smaller : goal.loop-p-smaller
loop-p-smaller c =
    let found = mover (goal.at.loop-p-smaller c).In-Some in
    let further : get_or c.loop-p.cut c.in-Some.p 0 < count (run_in c.args.sought.now.run) c.in-Some.p = omega (arith, c.count.ensures, ap (λ (v : SoughtSeen). count (run_in v.run) c.in-Some.p) c.sought.view_is, c.if-count-at.false) in
    search_less (given_seen c.sought.invariant c.sought.view_is) c.loop-p.cut c.loop-p.invariant.0 _ found.there found.must further

-- nobody is named: found
pub returns-in_default : goal.returns-in_default
returns-in_default c =
    search_found (given_seen c.sought.invariant c.sought.view_is) c.loop-p.cut c.loop-p.invariant.0 c.in_default.is c.first_named.ensures

-- a history runs out: none
pub returns-then-count-at : goal.returns-then-count-at
returns-then-count-at c =
    let found = mover (goal.at.returns-then-count-at c).In-Some in
    search_none (given_seen c.sought.invariant c.sought.view_is) c.loop-p.cut c.loop-p.invariant.0 _ found.there found.must (omega (arith, c.count.ensures, ap (λ (v : SoughtSeen). count (run_in v.run) c.in-Some.p) c.sought.view_is, c.if-count-at.true))
