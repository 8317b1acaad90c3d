-- `is_cut` meets its contract: a cut has a number for each process, and each is that of a state.
use Rattle.std.proofs.Common.{rules, tests}
use Rattle.std.specs.List.{list_all, range_with_len}
use Rattle.std.proofs.lemmas.Bool.Decides.{nat_tests}
use Rattle.std.proofs.lemmas.Iterator.{YieldsList-from_range}
use Rattle.std.proofs.lemmas.Iterator.Search.{all_from_yields_List}
use native.Mathlib.Omega.{arith}
use mathlib.Core.Path.{◌≡◌, refl, sym, ◌∙◌, subst}
use mathlib.Core.Bool.{Bool, true, not, ◌&&◌}
use mathlib.Core.List.{List}
use Prim.Native.Nat.{ℕ, ◌≤◌, ◌<◌}
use lib.Dec.{eqb, leb}
use lib.ListN.{length, get_or}
use Rattle.model.specs.Cut.{at, IsCut}
use Rattle.model.proofs.Numbers.{never}
use Rattle.record.specs.Record.{head_of}
use Rattle.run.specs.Said.{run_in}
use Rattle.run.specs.Index.{Listed}
use Rattle.run.proofs.Listed.{processes_are, listed_count}
use Rattle.cut.proofs.Each.{each_passes, passes_each}
use Rattle.cut.proofs.choice.is_cut.Goals as goal

-- the number of process p is one that its count has
abbrev chosen : List ℕ → List ℕ → ℕ → Bool
chosen ix cut p = not (eqb (at cut p) 0) && leb (at cut p) (get_or ix p 0)

chosen_is : (k n : ℕ) → (not (eqb k 0) && leb k n) ≡ true → (1 ≤ k) × (k ≤ n)
chosen_is k n e = (grind (arith, nat_tests), grind (arith, nat_tests))

is_chosen : (k n : ℕ) → 1 ≤ k → k ≤ n → (not (eqb k 0) && leb k n) ≡ true
is_chosen k n h g = grind (arith, nat_tests)

module _ (s ix cut : List ℕ) (w : Listed s ix) where
  states_chosen : IsCut (run_in s) cut → (p : ℕ) → p < (head_of s).processes → chosen ix cut p ≡ true
  states_chosen is p h =
      let t = is.states p (omega (arith, processes_are s w.read)) in
      is_chosen (at cut p) (get_or ix p 0) t.counted (subst (λ n. at cut p ≤ n) (sym (listed_count s ix w p h)) t.there)

  chosen_states : length cut ≡ (head_of s).processes → ((p : ℕ) → p < (head_of s).processes → chosen ix cut p ≡ true) → IsCut (run_in s) cut
  chosen_states e v = record {
    size = e ∙ sym (processes_are s w.read);
    states = λ p h.
        let l : p < (head_of s).processes = omega (arith, processes_are s w.read) in
        let (one, few) = chosen_is (at cut p) (get_or ix p 0) (v p l) in
        record { counted = one; there = subst (λ n. at cut p ≤ n) (listed_count s ix w p l) few };
  }

pub returns-then-cut-n : goal.returns-then-cut-n
returns-then-cut-n c = λ s w e. (λ z. never (cc), λ is. absurd (c.if-cut-n.true (is.size ∙ processes_are s w.read ∙ sym e)))

pub returns : goal.returns
returns c =
    let a = c.args in
    let t = chosen a.index.now a.cut.now in
    let told : c.all.result ≡ list_all t (range_with_len 0 a.n) = all_from_yields_List t _ _ c.all.result c.all.ensures.ran (YieldsList-from_range 0 a.n a.n refl (omega arith)) (λ x b q k. search (rules, tests)) in
    λ s w e. (
      λ z. chosen_states s _ _ w (c.if-cut-n.false ∙ e) (λ p h. each_passes t a.n 0 (sym told ∙ z) p (omega arith) (omega (arith, e))),
      λ is. told ∙ passes_each t a.n 0 (λ p h g. states_chosen s _ _ w is p (omega (arith, e))),
    )
