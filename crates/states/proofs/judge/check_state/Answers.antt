-- `check_state` meets its contract: right names have a count and, of a send or a receive, a channel.
use native.Mathlib.Omega.{arith}
use mathlib.Core.Path.{sym, ◌∙◌}
use Rattle.states.proofs.Laws.{NamesOk, named}
use Rattle.states.proofs.judge.check_state.Goals.{In_ok-check_names}
use Rattle.states.proofs.judge.check_state.Goals as goal

names : (c : In_ok-check_names) → NamesOk c.args.head c.args.f
names c = named _ _ (sym c.check_names.ensures ∙ c.in_ok-check_names.was)

pub bounds-counts-f : goal.bounds-counts-f
bounds-counts-f c = omega (arith, (names (goal.at.bounds-counts-f c).In_ok-check_names).process, c.requires.few, c.requires.eight)

pub check_side-requires : goal.check_side-requires
check_side-requires c =
    let known = names (goal.at.check_side-requires c).In_ok-check_names in
    (λ z. omega (arith, known.send z, c.requires.channels), λ z. omega (arith, known.receive z, c.requires.channels))
