-- `read_condition` meets its contract: a file that is too long is refused, and any other read record by record.
use mathlib.Core.Path.{◌≡◌, sym, ◌∙◌}
use Rattle.std.proofs.Common.{rules, Err}
use Rattle.record.proofs.Pass.{length_ok, read_refused, read_short}
use Rattle.condition.specs.Read.{condition_pass, read_of}
use Rattle.condition.proofs.SoFar.{passed_refused}
use Rattle.condition.proofs.pass.read_condition.Goals as goal

pub returns-in_err-check_length : goal.returns-in_err-check_length
unfolding read_of
returns-in_err-check_length c =
    let stopped : c.from_residual.result ≡ Err c.in_err-check_length.field-0.0 = search (rules) in
    rw stopped (passed_refused _ _ (read_refused (condition_pass _ _) _ (sym c.check_length.ensures ∙ c.in_err-check_length.was)))

pub read_records-requires : goal.read_records-requires
read_records-requires c = (length_ok _ _ (sym c.check_length.ensures ∙ c.in_ok-check_length.was), c.requires)

pub returns : goal.returns
unfolding read_of
returns c = rw (read_short (condition_pass _ _) (sym c.check_length.ensures ∙ c.in_ok-check_length.was)) c.read_records.ensures
