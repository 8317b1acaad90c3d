-- `pair_row` meets its contract. The invariant of its loop: the states ahead of k are clear and entered, and the marks are above what they carry.
use native.Mathlib.Omega.{arith}
use mathlib.Core.Path.{refl, ◌∙◌}
use mathlib.Core.Bool.{true, false}
use Rattle.judged.proofs.Processes.{row_of, state_here, small_run}
use Rattle.judged.proofs.Partners.{partway_start, partway_next, process_fault, process_end, rising_start}
use Rattle.pairing.proofs.pair_row.Goals as goal

pub count_of-k-end-requires : goal.count_of-k-end-requires
count_of-k-end-requires c = let row = row_of c.requires.0 refl c.requires.2 in (c.requires.0.long, row.eight)

pub loop-k-init : goal.loop-k-init
loop-k-init c =
    let r = c.requires in
    (record { listed = r.0; tables = r.1; sent = rising_start _ true _ _; received = rising_start _ false _ _ }, partway_start _ (small_run r.0) _ _)

pub settle-requires : goal.settle-requires
settle-requires c = (c.loop-k.invariant.0, state_here c.requires.0 c.requires.2 c.count_of-k-end.ensures c.loop-k.auto.k c.loop-k-test.true)

pub returns-then-not-settle-clause-process_paired : goal.returns-then-not-settle-clause-process_paired
returns-then-not-settle-clause-process_paired c =
    let here = state_here c.requires.0 c.requires.2 c.count_of-k-end.ensures c.loop-k.auto.k c.loop-k-test.true in
    process_fault _ (small_run c.requires.0) _ _ _ _ _ _ here c.loop-k.invariant.1 c.if-not-settle.ensures.settled

pub loop-k-preserved : goal.loop-k-preserved
loop-k-preserved c =
    let here = state_here c.requires.0 c.requires.2 c.count_of-k-end.ensures c.loop-k.auto.k c.loop-k-test.true in
    let (w, i) = c.loop-k.invariant in
    let v = c.if-not-settle.ensures.settled in (
      record {
        listed = c.settle.ensures.listed;
        tables = record { marked = c.settle.auto.marks ∙ w.tables.marked; hinted = c.settle.auto.hints ∙ w.tables.hinted };
        sent = v.sent;
        received = v.received;
      },
      partway_next _ (small_run w.listed) _ _ _ _ _ _ w.listed.long here i v,
    )

pub returns-clause-process_paired : goal.returns-clause-process_paired
returns-clause-process_paired c =
    let row = row_of c.requires.0 refl c.requires.2 in
    process_end _ (small_run c.requires.0) _ _ _ _ (omega (arith, c.count_of-k-end.ensures, row.counted)) c.loop-k.invariant.1

pub returns-else-not-settle-clause-process_paired : goal.returns-else-not-settle-clause-process_paired
returns-else-not-settle-clause-process_paired c =
    let row = row_of c.requires.0 refl c.requires.2 in
    let here = state_here c.requires.0 c.requires.2 c.count_of-k-end.ensures c.loop-k.auto.k c.loop-k-test.true in
    let (w, i) = c.loop-k.invariant in
    let next = partway_next _ (small_run w.listed) _ _ _ _ _ _ w.listed.long here i c.if-not-settle.ensures.settled in
    process_end _ (small_run c.requires.0) _ _ _ _ (omega (arith, c.count_of-k-end.ensures, row.counted)) next
