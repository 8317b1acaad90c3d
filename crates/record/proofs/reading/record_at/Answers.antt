-- `record_at` meets its contract: a right opening has the bytes of its kind.
use native.Mathlib.Omega.{arith}
use mathlib.Core.Path.{◌≡◌, sym, ◌∙◌}
use Rattle.std.proofs.Common.{rules}
use Rattle.record.specs.Record.{length_of}
use Rattle.record.proofs.Laws.{opened, opened_whole}
use Rattle.record.proofs.reading.record_at.Goals as goal

pub overflow_add-at : goal.overflow_add-at
overflow_add-at c = let o = opened _ _ c.requires.1 in record { fits = omega (arith, o.frame.long, o.frame.whole) }

pub u16_at-requires : goal.u16_at-requires
u16_at-requires c = let o = opened _ _ c.requires.1 in omega (arith, o.frame.long, o.frame.whole)

pub channel_fields_at-requires : goal.channel_fields_at-requires
unfolding length_of
channel_fields_at-requires c = let kind : c.u16_at.result ≡ 2 = search (rules) in omega (arith, opened_whole _ _ 2 c.requires.1 (sym c.u16_at.ensures ∙ kind))

pub state_fields_at-requires : goal.state_fields_at-requires
unfolding length_of
state_fields_at-requires c = let kind : c.u16_at.result ≡ 3 = search (rules) in omega (arith, opened_whole _ _ 3 c.requires.1 (sym c.u16_at.ensures ∙ kind))
