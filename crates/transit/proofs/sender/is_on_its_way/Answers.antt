-- `is_on_its_way` meets its contract, by the laws of the partner.
use mathlib.Core.Path.{◌≡◌, refl, ap, ◌∙◌}
use mathlib.Core.Bool.{Bool, true, false, cond, ◌||◌}
use Rattle.std.proofs.Common.{rules}
use Rattle.std.proofs.Math.Option.{none}
use lib.Dec.{eqb, ltb}
use lib.ListN.{get_or}
use Rattle.model.specs.Run.{IsState, into, sending}
use Rattle.model.specs.Cut.{on_channel, waiting}
use Rattle.run.specs.Said.{run_in}
use Rattle.run.specs.Index.{partner_at}
use Rattle.run.specs.Seen.{Seen}
use Rattle.run.proofs.Listed.{listed_slot}
use Rattle.transit.proofs.Partner.{waits_still, waits_not}
use Rattle.transit.proofs.Stored.{holds_seen}
use Rattle.transit.proofs.sender.is_on_its_way.Goals as goal

pub partner_of-partner-requires : goal.partner_of-partner-requires
partner_of-partner-requires c =
    let w = c.run.invariant.listed in
    let is : IsState (run_in c.run.inside.run.now) c.args.span.from c.args.k = search (rules, c.run.view_is) in
    (w.long, listed_slot _ _ w is)

pub returns : goal.returns
returns c = go _ refl
  where
    go : (t : Bool) → (eqb c.partner_of-partner.result 0 || ltb c.args.span.received c.partner_of-partner.result) ≡ t
        → waiting (run_in c.args.run.now.run) c.args.span.channel c.args.span.received c.args.k
        ≡ cond t (on_channel c.args.span.channel (sending (into (run_in c.args.run.now.run) c.args.span.from c.args.k))) none
    go true e = waits_still (holds_seen c.run.invariant c.run.view_is) _ _ _ _ _ c.requires.0 partner e
      where
        partner : c.partner_of-partner.result ≡ get_or c.args.run.now.index (partner_at c.args.span.from c.args.k) 0
        partner = c.partner_of-partner.ensures ∙ ap (λ (v : Seen). get_or v.index (partner_at c.args.span.from c.args.k) 0) c.run.view_is
    go false e = waits_not (holds_seen c.run.invariant c.run.view_is) _ _ _ _ _ c.requires.0 partner e
      where
        partner : c.partner_of-partner.result ≡ get_or c.args.run.now.index (partner_at c.args.span.from c.args.k) 0
        partner = c.partner_of-partner.ensures ∙ ap (λ (v : Seen). get_or v.index (partner_at c.args.span.from c.args.k) 0) c.run.view_is
