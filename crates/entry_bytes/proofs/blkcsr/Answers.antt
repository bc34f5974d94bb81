-- `blkcsr` meets its promise: refused by its lengths, or as the call on the words ends.
-- Assumes nothing.
use Rattle.std.proofs.Common.{rules}
use Rattle.answers.proofs.SameAnswer.{passed_up}
use mathlib.Core.Path.{sym, ◌∙◌}
use Prim.Native.Nat.{◌/◌}
use lib.ListN.{length}
use Rattle.wire.specs.Words.{indexes_in}
use Rattle.wire.proofs.WordLaws.{length_indexes}
use Rattle.elements.specs.Checks.{entry_lengths}
use Rattle.entry_bytes.proofs.SizeLaws.{blkcsr_asked}
use Rattle.entry_bytes.proofs.WayLaws.{nodes_counted}
use Rattle.entry_bytes.proofs.RefusedLaws.{blkcsr_refused, words_end}
use Rattle.entry_bytes.proofs.blkcsr.Goals as goal

pub returns-in_err-check_blkcsr : goal.returns-in_err-check_blkcsr
returns-in_err-check_blkcsr c =
    let on = passed_up (search rules) c.in_err-check_blkcsr.ensures in
    let a = c.args in
    blkcsr_refused a.dim (length a.rows.now) (length a.cols.now) (length a.element.now) (length a.offsets.now) (length a.columns.now) (length a.values.now)
    (indexes_in a.rows.now) (indexes_in a.cols.now) (indexes_in a.offsets.now) (indexes_in a.columns.now) (length_indexes a.rows.now) (length_indexes a.cols.now) (length_indexes a.offsets.now) (length_indexes a.columns.now) _ _ _
    on.number on.counts

pub blkcsr_lent-requires : goal.blkcsr_lent-requires
blkcsr_lent-requires c =
    let a = c.args in
    blkcsr_asked a.dim (length a.rows.now) (length a.cols.now) (length a.element.now) (length a.offsets.now) (length a.columns.now) (length a.values.now)
    (sym c.in_ok-check_blkcsr.ensures)

pub returns : goal.returns
returns c =
    let a = c.args in
    words_end (length a.offsets.now) (length a.columns.now) _
    (entry_lengths a.dim (length a.rows.now / 4) (length a.cols.now / 4) (length a.element.now / 8) (length a.offsets.now / 4) (length a.columns.now / 4) (length a.values.now / 8))
    _ _ _ _ _ (sym c.in_ok-check_blkcsr.ensures)
    (nodes_counted a.dim (indexes_in a.rows.now) (indexes_in a.cols.now) a.element.now (indexes_in a.offsets.now) (indexes_in a.columns.now) (length a.values.now / 8) _ _ _ _ c.blkcsr_lent.ensures)
