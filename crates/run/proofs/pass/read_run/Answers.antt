-- `read_run` meets its contract: a file that is too long is refused, and any other read record by record.
use mathlib.Core.Path.{◌≡◌, sym, ◌∙◌}
use Rattle.std.proofs.Common.{rules, Err}
use Rattle.record.proofs.Pass.{length_ok, read_refused, read_short}
use Rattle.run.specs.Read.{run_pass, read_of}
use Rattle.run.proofs.SoFar.{passed_refused}
use Rattle.run.proofs.pass.read_run.Goals as goal

pub returns-in_err-check_length : goal.returns-in_err-check_length
unfolding read_of
returns-in_err-check_length c =
    let stopped : c.from_residual.result ≡ Err c.in_err-check_length.field-0.0 = search (rules) in
    rw stopped (passed_refused _ _ _ (read_refused (run_pass _) _ (sym c.check_length.ensures ∙ c.in_err-check_length.was)))

pub read_records-requires : goal.read_records-requires
read_records-requires c = (length_ok _ _ (sym c.check_length.ensures ∙ c.in_ok-check_length.was), c.head_of.ensures, c.requires)

pub returns : goal.returns
unfolding read_of
returns c = rw (read_short (run_pass _) (sym c.check_length.ensures ∙ c.in_ok-check_length.was)) c.read_records.ensures
