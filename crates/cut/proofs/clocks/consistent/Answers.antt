-- `consistent` meets its contract: nobody is found exactly where the cut is consistent.
use mathlib.Core.Path.{◌≡◌, refl, sym}
use mathlib.Core.Bool.{Bool, true, false, not}
use mathlib.Core.List.{List}
use Prim.Native.Nat.{ℕ}
use Rattle.std.specs.Prelude.{Option, Some, None, is_some}
use Rattle.model.proofs.Numbers.{never}
use Rattle.cut.specs.Clocks.{too_low, ConsistentIs}
use Rattle.run.specs.Index.{clock_in}
use Rattle.cut.proofs.Low.{nobody_low, somebody_low}
use Rattle.cut.proofs.clocks.consistent.Goals as goal

found : (ix cut : List ℕ) (r : Option ℕ) → r ≡ too_low (clock_in ix) cut → (t : Bool) → is_some r ≡ not t → ConsistentIs ix cut t
found ix cut None e true d run rule is = (λ g. nobody_low _ _ run rule is (sym e), λ ok. refl)
found ix cut None e false d run rule is = never (cc)
found ix cut (Some p) e true d run rule is = never (cc)
found ix cut (Some p) e false d run rule is = (λ g. never (cc), λ ok. absurd (somebody_low _ _ run rule is p (sym e) ok))

pub returns : goal.returns
returns c = found _ _ _ c.too_low.ensures _ c.is_none.ensures
