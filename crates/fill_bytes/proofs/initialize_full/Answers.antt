-- `initialize_full` meets its promise: its lengths refuse it, or it goes from no bytes of A to bytes.
-- Assumes nothing.
use Rattle.std.proofs.Common.{rules}
use Rattle.answers.proofs.SameAnswer.{passed_up}
use mathlib.Core.Path.{sym, ◌∙◌}
use Rattle.fill_bytes.proofs.FullLaws.{full_refused, full_held, full_decided}
use Rattle.fill_bytes.proofs.initialize_full.Goals as goal

pub returns-in_err-check_full : goal.returns-in_err-check_full
returns-in_err-check_full c =
    let on = passed_up (search rules) c.in_err-check_full.ensures in
    let a = c.args in
    full_refused a.n a.offsets.now a.columns.now a.splits.now _ on.number on.counts

pub write_lent-requires : goal.write_lent-requires
write_lent-requires c =
    let a = c.args in
    full_held a.n a.offsets.now a.columns.now a.splits.now (sym c.in_ok-check_full.ensures)

pub returns : goal.returns
returns c =
    let a = c.args in
    full_decided a.n a.offsets.now a.columns.now a.splits.now (sym c.in_ok-check_full.ensures) _ _ _ _ c.write_lent.ensures
