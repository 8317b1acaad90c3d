-- The load of some messages.
use mathlib.Core.Path.{◌≡◌, refl, sym, ap, subst, ◌∙◌}
use mathlib.Core.List.{List, [], ◌∷◌}
use Prim.Native.Nat.{ℕ, ◌<◌}
use native.Mathlib.Omega.{arith}
use lib.ListN.{length}
use Rattle.std.specs.Prelude.{Option, Some, None, IfSome, MatchOption}
use Rattle.model.specs.declared.Message.{Message}
use Rattle.model.specs.LowestStamp.{LowestStamp}
use Rattle.model.proofs.Numbers.{never}
use Rattle.transit.specs.declared.Load.{Load}
use Rattle.transit.specs.Load.{LoadOf}
use Rattle.transit.specs.Load.LoadOf.{empty, messages}

pub load_empty : {ms : List Message} {load : Option Load} → LoadOf ms load → load ≡ None → ms ≡ []
load_empty (empty e) d = e
load_empty (messages n w) d = never (cc)

pub load_messages : {ms : List Message} {load : Option Load} {l : Load} → LoadOf ms load → load ≡ Some l → (l.count ≡ length ms) × LowestStamp ms l.lowest
load_messages (empty e) d = never (cc)
load_messages {ms} {l = l} (messages {load = k} n w) d =
    let same : k ≡ l = cc in
    subst (λ (l : Load). (l.count ≡ length ms) × LowestStamp ms l.lowest) same (n, w)

-- as many messages as the load counts: none, where it is empty
pub no_message : (ms : List Message) → 0 ≡ length ms → ms ≡ []
no_message [] e = refl
no_message (m ∷ ms) e = absurd (omega arith)

pub load_few : {ms : List Message} {load : Option Load} {n : ℕ} → LoadOf ms load → length ms < n → IfSome load (λ l. l.count < n)
load_few (empty e) h = tt
load_few (messages {load = l} e w) h = omega (arith, e)

pub load_count : {ms : List Message} {load : Option Load} {n : ℕ} → LoadOf ms load → MatchOption load (n ≡ 0) (λ l. n ≡ l.count) → n ≡ length ms
load_count (empty e) h = h ∙ sym (ap length e)
load_count (messages e w) h = h ∙ e
