-- `initialize_ilu0` meets its promise: its lengths refuse it, or it goes from bytes to bytes.
-- Assumes nothing.
use Rattle.std.proofs.Common.{rules}
use Rattle.answers.proofs.SameAnswer.{passed_up}
use mathlib.Core.Path.{sym, ◌∙◌}
use Rattle.fill_bytes.proofs.Ilu0Laws.{ilu0_refused, ilu0_held, ilu0_decided}
use Rattle.fill_bytes.proofs.initialize_ilu0.Goals as goal

pub returns-in_err-check_ilu0 : goal.returns-in_err-check_ilu0
returns-in_err-check_ilu0 c =
    let on = passed_up (search rules) c.in_err-check_ilu0.ensures in
    let a = c.args in
    ilu0_refused a.starts.now a.entries.now a.offsets.now a.columns.now a.splits.now _ on.number on.counts

pub write_lent-requires : goal.write_lent-requires
write_lent-requires c =
    let a = c.args in
    ilu0_held a.starts.now a.entries.now a.offsets.now a.columns.now a.splits.now (sym c.in_ok-check_ilu0.ensures)

pub returns : goal.returns
returns c =
    let a = c.args in
    ilu0_decided a.starts.now a.entries.now a.offsets.now a.columns.now a.splits.now (sym c.in_ok-check_ilu0.ensures) 0 _ _ _ _ c.write_lent.ensures
