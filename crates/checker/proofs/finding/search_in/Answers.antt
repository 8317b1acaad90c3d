-- `search_in` meets its contract: at each way out, what the search gave.
use native.Mathlib.Omega.{arith}
use mathlib.Core.Path.{refl}
use mathlib.Core.List.{List}
use Prim.Native.Nat.{ℕ}
use Rattle.model.specs.Clause.{First}
use Rattle.run.specs.Said.{run_in}
use Rattle.run.proofs.Listed.{processes_are}
use Rattle.condition.specs.Known.{clauses_for}
use Rattle.checker.specs.Inner.{Searching}
use Rattle.checker.specs.Answered.{Both}
use Rattle.checker.specs.Answered.Answered.{none, found}
use Rattle.search.proofs.Prepared.{searched_found, searched_none}
use Rattle.checker.proofs.finding.search_in.Goals as goal
use Rattle.checker.proofs.finding.search_in.Goals.{In-Found}

both : {s c ix qs row lent : List ℕ} → Searching s c ix qs row lent → Both s c
both r = record { run = r.accepted; cond = r.prepared.condition }

pub search-outcome-requires : goal.search-outcome-requires
search-outcome-requires c = c.requires.ones

pub returns-in_default : goal.returns-in_default
returns-in_default c =
    let r = c.requires in
    rw c.in_default.is (none (both r) r.room (searched_none r.prepared c.search-outcome.ensures c.in_default.is) refl)

first : (c : In-Found) → First (run_in c.args.sought.now.run) (clauses_for c.args.sought.now.run c.args.sought.now.cond) c.search-outcome.new.cut
first c = searched_found c.requires.prepared c.search-outcome.ensures c.in-Found.is

pub write-requires : goal.write-requires
write-requires c =
    let r = c.requires in
    let f = first (goal.at.write-requires c).In-Found in
    omega (arith, f.satisfies.is_cut.size, processes_are _ r.prepared.index.listed.read, r.room)

pub returns : goal.returns
returns c =
    let r = c.requires in
    rw c.in-Found.is (found (both r) r.room _ (first (goal.at.returns c).In-Found) c.write.ensures)
