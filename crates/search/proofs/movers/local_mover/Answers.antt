-- `local_mover` meets its contract: a local clause is about the state that the cut has for its process.
use borrow.Author.Rules.{rules}
use native.Mathlib.Omega.{arith}
use mathlib.Core.Path.{◌≡◌, sym, ◌∙◌}
use Prim.Native.Nat.{◌<◌}
use Rattle.model.specs.Run.{processes}
use Rattle.run.specs.Said.{run_in}
use Rattle.run.proofs.Listed.{processes_are}
use mir.Syntax.{w32}
use mir.Val.{to_z, of_z}
use Rattle.search.proofs.Tests.{local_true, local-false}
use mathlib.Core.List.{List}
use Prim.Native.Nat.{ℕ}
use Rattle.record.specs.Record.{head_of}
use Rattle.run.specs.Index.{IndexHolds}
use Rattle.condition.specs.declared.Local.{Local}
use Rattle.condition.specs.Known.{LocalKnown}
use Rattle.transit.proofs.Stored.{holds_seen}
use Rattle.search.proofs.movers.local_mover.Goals as goal

in_run : {s ix : List ℕ} {l : Local} → IndexHolds s ix → LocalKnown (head_of s) l → l.process < processes (run_in s)
in_run w k = omega (arith, k.process, processes_are _ w.listed.read)

pub bounds-cut-p : goal.bounds-cut-p
bounds-cut-p c =
    omega (arith, c.requires.0.size, in_run (holds_seen c.run.invariant c.run.view_is) c.requires.1)

pub local_holds-requires : goal.local_holds-requires
local_holds-requires c =
    let r = c.requires in
    (r.0.states _ (in_run (holds_seen c.run.invariant c.run.view_is) r.1), r.1.value)

pub returns-then-local_holds : goal.returns-then-local_holds
returns-then-local_holds c =
    let constant : to_z w32 (of_z w32 c.args.clause.constant) ≡ c.args.clause.constant = search rules in
    local_true _ _ _ _ _ _ (constant) (sym c.local_holds.ensures ∙ c.if-local_holds.true)

pub returns : goal.returns
returns c =
    let constant : to_z w32 (of_z w32 c.args.clause.constant) ≡ c.args.clause.constant = search rules in
    local-false _ _ _ _ _ _ (in_run (holds_seen c.run.invariant c.run.view_is) c.requires.1) (constant) (sym c.local_holds.ensures ∙ c.if-local_holds.false)
