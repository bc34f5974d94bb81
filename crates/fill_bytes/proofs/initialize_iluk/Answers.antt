-- `initialize_iluk` meets its promise: its lengths refuse it, or it goes from bytes to bytes and its work is cleared.
-- Assumes nothing.
use Rattle.std.proofs.Common.{rules}
use Rattle.answers.proofs.SameAnswer.{passed_up}
use mathlib.Core.Path.{sym, ◌∙◌}
use Rattle.fill_bytes.proofs.EndLaws.{work_cleared}
use Rattle.fill_bytes.proofs.IlukLaws.{iluk_refused, iluk_held, iluk_decided}
use Rattle.fill_bytes.proofs.initialize_iluk.Goals as goal

pub returns-in_err-check_iluk : goal.returns-in_err-check_iluk
returns-in_err-check_iluk c =
    let on = passed_up (search rules) c.in_err-check_iluk.ensures in
    let a = c.args in
    let both = iluk_refused a.k a.starts.now a.entries.now a.offsets.now a.columns.now a.splits.now a.levels.now a.row.now _ on.number on.counts in
    record { wrote = both.0; cleared = both.1 }

pub write_lent-answer-requires : goal.write_lent-answer-requires
write_lent-answer-requires c =
    let a = c.args in
    iluk_held a.k a.starts.now a.entries.now a.offsets.now a.columns.now a.splits.now a.levels.now a.row.now (sym c.in_ok-check_iluk.ensures)

pub returns : goal.returns
returns c =
    let a = c.args in record {
      wrote = iluk_decided a.k a.starts.now a.entries.now a.offsets.now a.columns.now a.splits.now a.levels.now a.row.now
          (sym c.in_ok-check_iluk.ensures) _ _ _ _ c.write_lent-answer.ensures;
      cleared = work_cleared _ _ _ _ _ _ c.number-number.ensures c.clear_if_written.ensures c.clear_if_written-2.ensures;
    }
