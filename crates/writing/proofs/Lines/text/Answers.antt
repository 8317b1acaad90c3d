-- `text` meets its contract: what fits is copied.
use Rattle.std.proofs.Common.{◌≡◌, ◌+◌, ◌-◌, refl, sym, arith}
use Rattle.writing.proofs.Putting.{sets-copy}
use Rattle.writing.proofs.Lines.text.Goals as goal

pub returns : goal.returns
returns c =
    let lines = c.args.self.now in
    let long : c.min-start.result + c.min-n.result - c.min-start.result ≡ c.min-n.result = omega arith in
    let copied = sets-copy lines.buffer.now lines.at _ _ c.args.words.now _ c.min-start.ensures c.min-n.ensures c.copy_from_slice.ensures.after in
    record { same_reference = refl; short = omega arith; end = c.saturating_add-self.ensures; stored = rw long (sym copied) }
