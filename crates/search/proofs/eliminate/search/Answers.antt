-- `search` meets its contract: state 1 everywhere is at or below every satisfying cut, and nothing is sent or received there.
use native.Mathlib.Omega.{arith}
use mathlib.Core.Path.{sym, subst}
use lib.ListN.{replicate}
use Rattle.run.specs.Said.{run_in}
use Rattle.run.proofs.Listed.{ok, channels_are}
use Rattle.kept.specs.Kept.{CountsKept}
use Rattle.kept.proofs.Start.{start_kept}
use Rattle.search.proofs.Moving.{search_start}
use Rattle.search.proofs.Seen.{given_seen}
use Rattle.search.proofs.eliminate.search.Goals as goal

pub eliminate-requires : goal.eliminate-requires
eliminate-requires c =
    let e = c.requires in
    let g = given_seen c.sought.invariant c.sought.view_is in
    let read = g.index.listed.read in (
      search_start g _ e,
      subst (λ cut. CountsKept (run_in c.args.sought.now.run) cut (replicate 16 0) (replicate 16 0)) (sym e)
          (start_kept _ g.index.known 16 (omega (arith, channels_are _ read, (ok _ read).head.channels))),
    )
