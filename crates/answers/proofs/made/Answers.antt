-- `made` meets its contract: the first call tells how long the lines are, and the second puts them where they fit.
use borrow.Author.Rules.{rules}
use mathlib.Core.Path.{◌≡◌, sym}
use Rattle.answers.proofs.Calls.{put_made, put_short}
use Rattle.answers.proofs.made.Goals as goal

pub returns-then-buffer-n : goal.returns-then-buffer-n
returns-then-buffer-n g c = λ lines puts. put_short (puts _ _ _ c.put.ensures) c.new-lines.ensures.front c.end-n.ensures c.if-buffer-n.true

pub returns : goal.returns
returns g c = λ lines puts.
    let lent = c.new.ensures in
    let put = puts _ _ _ c.put-2.ensures in
    let same : c.new.result.buffer.ghost_name ≡ c.put-2.new.arg2.buffer.ghost_name = sym put.same_reference in
    put_made (puts _ _ _ c.put.ensures) c.new-lines.ensures.front c.end-n.ensures put lent.front lent.bytes (search (rules, same)) c.if-buffer-n.false
