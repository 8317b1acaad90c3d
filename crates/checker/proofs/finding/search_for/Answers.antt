-- `search_for` meets its contract: 15 where there are too few places, else what the search in a row of ones gives.
use native.Mathlib.Omega.{arith}
use mathlib.Core.Path.{refl, sym, ap, ◌∙◌}
use mathlib.Core.List.{List}
use Prim.Native.Nat.{ℕ, ◌≤◌}
use lib.ListN.{length, replicate, length-replicate}
use Rattle.record.specs.declared.Head.{Head}
use Rattle.judged.specs.Told.{Told}
use Rattle.run.proofs.Listed.{ok, processes_are}
use Rattle.search.proofs.Prepared.{given}
use Rattle.checker.specs.Answered.Answered.{few}
use Rattle.checker.proofs.Rows.{take-replicate}
use Rattle.checker.proofs.finding.search_for.Goals as goal

eight : {s ix : List ℕ} {head : Head} → Told s ix head → head.processes ≤ 8
eight {s} w = omega (arith, ap (λ h. h.processes) w.head, (ok s w.index.listed.read).head.few)

pub returns-then-lent-size : goal.returns-then-lent-size
returns-then-lent-size c =
    let r = c.requires in
    rw c.refusal_of.ensures (few (record { run = r.0.accepted; cond = r.1.condition }) (omega (arith, ap (λ h. h.processes) r.0.head, c.if-lent-size.true)) refl)

pub slice_bounds-row-end : goal.slice_bounds-row-end
slice_bounds-row-end c =
    omega (arith, eight c.requires.0)

pub slice_bounds-search_in-end : goal.slice_bounds-search_in-end
slice_bounds-search_in-end c =
    sym (ap length (take-replicate _ 8 1 (eight c.requires.0)) ∙ length-replicate _ 1)

pub invariant_of-sought : goal.invariant_of-sought
invariant_of-sought c = given c.requires.1

pub search_in-requires : goal.search_in-requires
search_in-requires c =
    let r = c.requires in
    let n = ap (λ h. h.processes) r.0.head in
    record {
      accepted = r.0.accepted;
      prepared = r.1;
      ones = take-replicate _ 8 1 (eight r.0) ∙ ap (λ c. replicate c 1) (n ∙ sym (processes_are _ r.0.index.listed.read));
      room = omega (arith, n, c.if-lent-size.false);
    }
