-- `sort_row` meets its promise: refused with every byte as it was, or sorted.
-- Assumes nothing.
use Rattle.std.proofs.Common.{rules}
use Rattle.answers.proofs.SameAnswer.{passed_up}
use mathlib.Core.Path.{refl, sym, ◌∙◌}
use lib.ListN.{length}
use Rattle.answers.proofs.EndLaws.{refused, done, none_of_zero}
use Rattle.pattern_bytes.specs.Checks.{row_checks}
use Rattle.pattern_bytes.proofs.PassLaws.{row_whole}
use Rattle.pattern_bytes.proofs.sort_row.Goals as goal

pub returns-in_err-check_row : goal.returns-in_err-check_row
returns-in_err-check_row c =
    let on = passed_up (search rules) c.in_err-check_row.ensures in
    refused (row_checks (length c.args.columns.now)) _ on.number _ _ on.counts

pub sort_whole-requires : goal.sort_whole-requires
sort_whole-requires c =
    let bytes = length c.args.columns.now in
    row_whole bytes (none_of_zero (row_checks bytes) refl (sym c.in_ok-check_row.ensures))

pub returns : goal.returns
returns c =
    done (row_checks (length c.args.columns.now)) _ c.in_ok-check_row.ensures _ _ _ refl refl c.sort_whole.ensures
