-- `find` meets its contract: what the closure answers at a state is whether that state carries the message.
use native.Mathlib.Omega.{arith}
use mathlib.Core.Path.{◌≡◌}
use mathlib.Core.Bool.{true, false}
use Rattle.std.proofs.Common.{rules, ℕ}
use Rattle.std.proofs.lemmas.Iterator.{first_from_Range}
use Rattle.model.specs.Run.{into}
use Rattle.run.specs.Said.{run_in}
use Rattle.run.proofs.Listed.{listed_few}
use Rattle.judged.specs.Pairing.{carries}
use Rattle.judged.proofs.Pairs.{carrier_found}
use Rattle.pairing.proofs.find.Goals as goal

pub returns : goal.returns
returns c =
    let a = c.args in
    let at = λ (k : ℕ). carries a.sends (into (run_in a.run.now) a.p k) a.message in
    carrier_found _ _ _ _ _ _ _ (first_from_Range _ _ _ _ (λ k. at k ≡ true) (λ k. at k ≡ false) c.find.ensures.ran (λ x r k. search rules) (λ x r k. (search rules, search rules)))

pub overflow_add-high : goal.overflow_add-high
overflow_add-high c = let r = c.requires in omega (arith, r.last, listed_few _ _ r.listed _ r.process)
