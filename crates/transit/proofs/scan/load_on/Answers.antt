-- `load_on` meets its contract: a load with each state more, up to the sender's state at the cut.
use native.Mathlib.Omega.{arith}
use mathlib.Core.Path.{◌≡◌, ap, subst, ◌∙◌, refl}
use Rattle.model.specs.Cut.{between}
use Rattle.run.specs.Said.{run_in}
use Rattle.transit.specs.Load.{LoadOf}
use Rattle.transit.specs.Load.LoadOf.{empty}
use Rattle.transit.specs.Waiting.{inside}
use Rattle.transit.proofs.Between.{between_few, next_between, span_few, span_state, span_transit}
use Rattle.transit.proofs.Loads.{load_few}
use Rattle.transit.proofs.Partner.{inside-held}
use Rattle.transit.proofs.scan.load_on.Goals as goal

pub loop-k-init : goal.loop-k-init
unfolding between
loop-k-init c = empty refl

pub waits-requires : goal.waits-requires
waits-requires c =
    let there = c.span_of-span.ensures.1 in
    (there.own, span_state there (omega arith) (omega (arith, c.loop-k-test.true)))

pub load_with-load-requires : goal.load_with-load-requires
load_with-load-requires c =
    let few = c.span_of-span.ensures.1.few in
    load_few c.loop-k.invariant (omega (arith, few, c.loop-k-test.true, between_few (run_in c.args.run.now.run) c.span_of-span.result.channel c.span_of-span.result.received c.loop-k.k))

pub loop-k-preserved : goal.loop-k-preserved
loop-k-preserved c =
    let held = ap inside c.waits.ensures ∙ inside-held _ in
    rw next_between (rw held at (c.load_with-load.ensures _ c.loop-k.invariant))

pub returns : goal.returns
returns c =
    let span = c.span_of-span.result in
    let told = c.span_of-span.ensures in
    let all : c.loop-k.k ≡ span.sent = omega (arith, c.loop-k.auto.k-end, c.loop-k-test.false) in (
      subst (λ ms. LoadOf ms c.loop-k.load) (ap (λ k. between (run_in c.args.run.now.run) span.channel k span.received) all ∙ span_transit told.1 _ _ told.0) c.loop-k.invariant,
      span_few told.1 _ _ told.0,
    )
