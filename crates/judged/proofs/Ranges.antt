-- `any` over a range, said of the numbers in it, as std says it of `find`.
use mathlib.Core.Path.{◌≡◌, refl, subst}
use mathlib.Core.Bool.{Bool, true, false}
use mathlib.Core.List.{List}
use lib.ListN.{length, get_or}
use Rattle.std.specs.List.{range_with_len, FoldsTo, AllWithin, HoldsAt}
use Rattle.std.proofs.lemmas.List.FromFn.{length-range_with_len, get_or-range_with_len}
use Prim.Native.Nat.{ℕ, ◌+◌, ◌-◌, ◌≤◌, ◌<◌}
use native.Mathlib.Omega.{arith}
use denote.Param.Members.{Mut}
use Rattle.std.specs.Prelude.{Option}
use Rattle.std.specs.Option.{MatchOption}
use Rattle.std.specs.Fn.{Called}
use Rattle.std.specs.Iterator.{YieldsThen}
use Rattle.std.specs.Bool.{MatchBool}
use Rattle.std.proofs.iter.Yields.{nat_range_steps}
use Rattle.std.proofs.lemmas.Iterator.{YieldsList-from_range, cases_from_any}

module _ {F : Type 0} {g : Mut F (ℕ × Unit {0}) Bool} where
  pub any_from_Range : (s u : _) (f : F) (r : Bool) (Yes No : ℕ → Type 0)
      → (xs : List ℕ) × (o : Option ℕ) × (j : F) × YieldsThen nat_range_steps s xs o u × FoldsTo (λ p x q. Called g p (x, tt) false q) f xs j
      × MatchOption o (r ≡ false) (λ x. (r ≡ true) × ((h : F) × Called g j (x, tt) true h))
      → ((x : ℕ) (q : F) → Called g f (x, tt) true q → Yes x) → ((x : ℕ) (q : F) → Called g f (x, tt) false q → (q ≡ f) × No x)
      → MatchBool r ((k : ℕ) × (s.start ≤ k) × (k < s.end) × Yes k) ((k : ℕ) → s.start ≤ k → k < s.end → No k)
  any_from_Range s u f r Yes No d yes' no' = by r (cases_from_any u f r Yes No d (YieldsList-from_range s.start s.end _ refl refl) yes' no')
    where
      all : List ℕ
      all = range_with_len s.start (s.end - s.start)

      long : length all ≡ s.end - s.start
      long = length-range_with_len s.start (s.end - s.start)

      at_is : (k : ℕ) → k < s.end - s.start → get_or all k 0 ≡ s.start + k
      at_is k h = get_or-range_with_len s.start (s.end - s.start) k 0 h

      by : (b : Bool) → MatchBool b ((k : ℕ) × (k < length all) × HoldsAt Yes all k) (AllWithin No all 0 (length all))
          → MatchBool b ((k : ℕ) × (s.start ≤ k) × (k < s.end) × Yes k) ((k : ℕ) → s.start ≤ k → k < s.end → No k)
      by true (k, h, y) = (s.start + k, omega arith, omega (arith, long, h), subst Yes (at_is k (omega (arith, long, h))) (y 0))
      by false h = λ k a b. subst No {x = get_or all (k - s.start) 0} {y = k} (omega (arith, at_is (k - s.start) (omega arith))) (h (k - s.start) 0 (omega arith) (omega (arith, long)))
