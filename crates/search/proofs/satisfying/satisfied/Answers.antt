-- `satisfied` meets its contract: a clause that is false, or a clock that is too far, denies it; where there is neither, the cut satisfies. The channel
-- clauses are asked beside the counts that the listing wrote.
use native.Mathlib.Omega.{arith}
use mathlib.Core.Path.{◌≡◌, refl, sym, ap, subst, ◌∙◌}
use mathlib.Core.Logic.{◌↔◌}
use mathlib.Core.Bool.{Bool, true, false, not}
use Rattle.std.specs.Prelude.{Option, Some, None, is_some}
use mathlib.Core.List.{List}
use Prim.Native.Nat.{ℕ, ◌≤◌}
use lib.IntN.{pos}
use lib.ListN.{length, replicate}
use Rattle.model.specs.Run.{Run}
use Rattle.model.specs.Cut.{Consistent, in_transit}
use Rattle.model.specs.Clause.{Satisfies}
use Rattle.model.proofs.Numbers.{never, denied}
use Rattle.record.specs.Record.{head_of}
use Rattle.model.specs.Clocks.{Clocks}
use Rattle.run.specs.Said.{run_in}
use Rattle.run.specs.Index.{clock_in}
use Rattle.run.specs.Seen.{Seen}
use Rattle.cut.specs.Entered.{Listable}
use Rattle.search.specs.Sought.{SoughtSeen}
use Rattle.search.proofs.Seen.{given_seen}
use Rattle.condition.specs.Clauses.{clauses_of}
use Rattle.search.specs.Search.{Given, KindTested}
use Rattle.states.proofs.Tabulate.{tabulate-at, tabulate-length}
use Rattle.run.proofs.Listed.{ok, channels_are}
use Rattle.kept.specs.Kept.{EachCounted}
use Rattle.cut.specs.Listing.{on_each, Wrote}
use Rattle.cut.proofs.Low.{cut_in_table}
use Rattle.search.proofs.Moving.{kind_fails, both_kinds}
use Rattle.search.proofs.satisfying.satisfied.Goals.{After-consistent}
use Rattle.search.proofs.satisfying.satisfied.Goals as goal

-- what the listing wrote counts what is in transit
each_listed : (r : Run) (cut : List ℕ) {row row' : List ℕ} → length r.channels ≤ length row → Wrote (on_each r cut) row row' → EachCounted r (in_transit r cut) row'
unfolding on_each
each_listed r cut h w = record {
  room = omega (arith, w.long);
  each = λ c g. w.front c (omega (arith, tabulate-length (length r.channels) (λ c. length (in_transit r cut c)))) ∙ tabulate-at _ _ c 0 g;
}

holds_nobody : (b : Option ℕ) → is_some b ≡ false → b ≡ None
holds_nobody None e = refl
holds_nobody (Some p) e = never (cc)

module _ {s c ix qs : List ℕ} (g : Given s c ix qs) (cut : List ℕ) where
  somebody : (b : Option ℕ) {locals : Bool} → is_some b ≡ true → KindTested (run_in s) (clauses_of c qs) cut locals b → ¬ Satisfies (run_in s) (clauses_of c qs) cut
  somebody None e t w = never (cc)
  somebody (Some p) e t w = kind_fails g cut refl t w

  -- nobody is named last exactly where the cut satisfies
  last : (b : Option ℕ) (t : Bool) → is_some b ≡ not t → KindTested (run_in s) (clauses_of c qs) cut false b
      → (b ≡ None → Satisfies (run_in s) (clauses_of c qs) cut) → (t ≡ true) ↔ Satisfies (run_in s) (clauses_of c qs) cut
  last None true e k w = (λ z. w refl, λ z. refl)
  last None false e k w = never (cc)
  last (Some p) true e k w = never (cc)
  last (Some p) false e k w = (λ z. never (cc), λ z. absurd (kind_fails g cut refl k z))

pub returns-then-is_some : goal.returns-then-is_some
returns-then-is_some c =
    let g = given_seen c.sought.invariant c.sought.view_is in
    (λ e. never (cc), λ w. absurd (somebody g _ _ (sym c.is_some.ensures ∙ c.if-is_some.true) c.first_local.ensures w))

pub consistent-requires : goal.consistent-requires
consistent-requires c =
    let g = given_seen c.sought.invariant c.sought.view_is in
    (c.run.invariant.listed.long, cut_in_table g.index _ c.requires.0)

-- the clock test, of the run that contracts see
asked : (c : After-consistent) → (c.consistent.result ≡ true) ↔ Consistent (run_in c.args.sought.now.run) c.args.cut.now
asked c =
    let g = given_seen c.sought.invariant c.sought.view_is in
    c.consistent.ensures _ (subst (λ (ix : List ℕ). Clocks (run_in c.args.sought.now.run) (clock_in ix)) (sym (ap (λ (v : Seen). v.index) c.run.view_is ∙ ap (λ (v : SoughtSeen). v.index) c.sought.view_is)) g.index.clocks) c.requires.0

pub returns-then-not-consistent : goal.returns-then-not-consistent
returns-then-not-consistent c =
    let told = asked (goal.at.returns-then-not-consistent c).After-consistent in
    (λ e. never (cc), λ w. absurd (denied (ap not c.if-not-consistent.true) (told.1 w.consistent)))

sixteen : {s c ix qs : List ℕ} → Given s c ix qs → {n : ℕ} → n ≡ (head_of s).channels → n ≤ 16
sixteen g e = omega (arith, e, (ok _ g.index.listed.read).head.channels)

pub list_channels-requires : goal.list_channels-requires
list_channels-requires c =
    let r = c.requires in
    let few = sixteen (given_seen c.sought.invariant c.sought.view_is) r.1 in
    subst (λ s. Listable s c.args.cut.now c.args.channels (replicate 16 0) (replicate 16 (pos 0))) (sym (ap (λ (v : SoughtSeen). v.run) c.sought.view_is))
    (record { is_cut = r.0; all = r.1; room = record { counts = omega (arith, few); stamps = omega (arith, few) } })

pub first_channel-requires : goal.first_channel-requires
first_channel-requires c =
    let r = c.requires in
    let g = given_seen c.sought.invariant c.sought.view_is in
    let are = channels_are _ g.index.listed.read in
    let listed = subst (λ (v : SoughtSeen). Wrote (on_each (run_in v.run) c.args.cut.now) (replicate 16 0) c.list_channels.new.counts) c.sought.view_is c.list_channels.ensures.0 in
    record { is_cut = r.0; each = each_listed _ _ (omega (arith, sixteen g r.1, r.1, are)) listed }

pub returns : goal.returns
returns c =
    let g = given_seen c.sought.invariant c.sought.view_is in
    let told = asked (goal.at.returns c).After-consistent in
    last g _ _ _ c.is_none.ensures c.first_channel.ensures (λ none. record {
      is_cut = c.requires.0;
      consistent = told.0 c.if-not-consistent.false;
      clauses = both_kinds g _ (holds_nobody _ (sym c.is_some.ensures ∙ c.if-is_some.false)) c.first_local.ensures none c.first_channel.ensures;
    })
