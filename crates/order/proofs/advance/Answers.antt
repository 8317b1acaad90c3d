-- `advance` meets its contract: the process is finished, or it waits, or its next state is done.
use native.Mathlib.Omega.{arith}
use Prim.Native.Nat.{◌+◌, ◌≤◌, ◌<◌}
use lib.ListN.{get_or}
use borrow.Author.Tests.{tests}
use Rattle.std.proofs.Common.{rules}
use Rattle.std.specs.Option.{IfSome, IsSomeAnd}
use Rattle.run.specs.Index.{HasSlot}
use Rattle.judged.proofs.Processes.{row_of, small_run}
use Rattle.judged.proofs.Orders.{ahead_apart, ahead_small, few_processes, advanced_end, advanced_wait, advanced_on}
use Rattle.order.proofs.advance.Goals as goal

pub bounds-done-row : goal.bounds-done-row
bounds-done-row c = let few = few_processes c.requires.0 in omega (arith, c.requires.0.eight)

pub count_of-requires : goal.count_of-requires
count_of-requires c = let few = few_processes c.requires.0 in (c.requires.0.matched.listed.long, omega arith)

pub returns-then-count_of-k : goal.returns-then-count_of-k
returns-then-count_of-k c =
    let row = row_of c.requires.0.matched.listed c.requires.0.all c.requires.1 in
    advanced_end c.requires.0 _ (omega (arith, c.count_of.ensures, row.counted, c.if-count_of-k.true))

pub ahead_of-ahead-requires : goal.ahead_of-ahead-requires
ahead_of-ahead-requires c =
    let row = row_of c.requires.0.matched.listed c.requires.0.all c.requires.1 in
    (c.requires.0.matched, record { counted = omega arith; there = omega (arith, c.count_of.ensures, row.counted, c.if-count_of-k.false) })

pub bounds-done-row-2 : goal.bounds-done-row-2
bounds-done-row-2 c = let few = few_processes c.requires.0 in omega (arith, c.requires.0.eight)

pub is_some_and-requires : goal.is_some_and-requires
is_some_and-requires c = λ x e.
    let m = c.requires.0.matched in
    let small : HasSlot x.process x.state = rw e at (ahead_small _ m.known (small_run m.listed) c.ahead_of-ahead.ensures) in
    search rules

pub returns-then-is_some_and : goal.returns-then-is_some_and
returns-then-is_some_and c =
    let waits : IsSomeAnd c.ahead_of-ahead.result (λ a. get_or c.args.done.now a.process 0 < a.state) = search (rules, tests) in
    advanced_wait c.requires.0 _ c.ahead_of-ahead.ensures waits

pub clock_row-requires : goal.clock_row-requires
clock_row-requires c =
    let o = c.requires.0 in
    let m = o.matched in
    let row = row_of m.listed o.all c.requires.1 in
    let few : get_or c.args.done.now c.args.p 0 + 1 ≤ 512 = omega (arith, c.count_of.ensures, row.counted, row.few, c.if-count_of-k.false) in (
      record {
        long = m.listed.long;
        own = record { process = row.eight; counted = omega arith; few = few };
        ahead = ahead_small _ m.known (small_run m.listed) c.ahead_of-ahead.ensures;
      },
      few_processes o,
      ahead_apart _ m.known c.ahead_of-ahead.ensures,
    )

pub returns : goal.returns
returns c =
    let o = c.requires.0 in
    let row = row_of o.matched.listed o.all c.requires.1 in
    let ready : IfSome c.ahead_of-ahead.result (λ a. a.state ≤ get_or c.args.done.now a.process 0) = search (rules, tests) in
    advanced_on o _ _ _ c.clock_row.auto.index (omega (arith, c.count_of.ensures, row.counted, c.if-count_of-k.false)) c.ahead_of-ahead.ensures ready c.clock_row.ensures
