-- `assemble` meets its promise: refused by its lengths, or as the call on the words ends.
-- Assumes nothing.
use Rattle.std.proofs.Common.{rules}
use Rattle.answers.proofs.SameAnswer.{passed_up}
use mathlib.Core.Path.{sym, ◌∙◌}
use Prim.Native.Nat.{◌/◌}
use lib.ListN.{length}
use Rattle.wire.specs.Words.{indexes_in}
use Rattle.wire.proofs.WordLaws.{length_indexes}
use Rattle.elements.specs.Checks.{element_lengths}
use Rattle.assembly_bytes.specs.Ways.{rule_of}
use Rattle.element_bytes.proofs.SizeLaws.{assembly_asked}
use Rattle.assembly_bytes.proofs.WayLaws.{element_counted}
use Rattle.entry_bytes.proofs.RefusedLaws.{words_end}
use Rattle.element_bytes.proofs.RefusedLaws.{assembly_refused}
use Rattle.element_bytes.proofs.assemble.Goals as goal

pub returns-in_err-check_assembly : goal.returns-in_err-check_assembly
returns-in_err-check_assembly c =
    let on = passed_up (search rules) c.in_err-check_assembly.ensures in
    let a = c.args in
    assembly_refused a.dim (length a.rows.now) (length a.cols.now) (length a.element.now) (length a.offsets.now) (length a.columns.now) (length a.diagonal.now) (length a.values.now)
    (indexes_in a.rows.now) (indexes_in a.cols.now) (indexes_in a.offsets.now) (indexes_in a.columns.now) (length_indexes a.rows.now) (length_indexes a.cols.now) (length_indexes a.offsets.now) (length_indexes a.columns.now) _ _ _ (rule_of a.call)
    on.number on.counts

pub assemble_lent-requires : goal.assemble_lent-requires
assemble_lent-requires c =
    let a = c.args in
    let asked = assembly_asked a.dim (length a.rows.now) (length a.cols.now) (length a.element.now) (length a.offsets.now) (length a.columns.now) (length a.diagonal.now) (length a.values.now)
    (sym c.in_ok-check_assembly.ensures) in
    (asked.0, c.requires, asked.1, asked.2, asked.3)

pub returns : goal.returns
returns c =
    let a = c.args in
    words_end (length a.offsets.now) (length a.columns.now) _
    (element_lengths a.dim (length a.rows.now / 4) (length a.cols.now / 4) (length a.element.now / 8) (length a.offsets.now / 4) (length a.columns.now / 4) (length a.diagonal.now / 8) (length a.values.now / 8))
    _ _ _ _ _ (sym c.in_ok-check_assembly.ensures)
    (element_counted a.dim (rule_of a.call) (indexes_in a.rows.now) (indexes_in a.cols.now) a.element.now (indexes_in a.offsets.now) (indexes_in a.columns.now) (length a.diagonal.now / 8) (length a.values.now / 8) _ _ _ _ c.assemble_lent.ensures)
