-- `assemble_in` meets its promise: refused with every byte as it was, or done and written.
-- Assumes nothing.
use mathlib.Core.Path.{◌≡◌}
use Rattle.std.specs.Prelude.{Err}
use Rattle.std.proofs.Common.{rules}
use Rattle.answers.proofs.SameAnswer.{refusal_counts}
use mathlib.Core.Path.{refl}
use native.Mathlib.Omega.{arith}
use lib.Ieee.{binary64}
use Rattle.assembly_bytes.specs.Ways.{bytes_of_lists, rule_of}
use Rattle.entry_bytes.proofs.WayLaws.{written, unwritten}
use Rattle.assembly_bytes.proofs.WayLaws.{matrix_read, both_are}
use Rattle.assembly_bytes.proofs.unchecked.assemble_in.Goals as goal

pub returns-in_err-assemble_words : goal.returns-in_err-assemble_words
returns-in_err-assemble_words c =
    let same : c.from_residual.result ≡ Err c.in_err-assemble_words.field-0.0 = search rules in
    let a = c.args in
    rw same (unwritten (bytes_of_lists binary64) _ _ _ _ _
    (matrix_read a.dim (rule_of a.call) a.rows.now a.cols.now a.element.now a.offsets.now a.columns.now a.diagonal.now a.values.now _ _ _ _ _ _
    c.decode_pattern.ensures.0 c.decode_pattern.ensures.1 c.decode_lists.ensures.0 c.decode_lists.ensures.1 c.in_err-assemble_words.ensures) _ (refusal_counts _))

pub encode_lists-requires : goal.encode_lists-requires
encode_lists-requires c = (omega (arith, c.requires.4, c.assemble_words.auto.diagonal, c.decode_lists.auto.ds), omega (arith, c.requires.5, c.assemble_words.auto.values, c.decode_lists.auto.vs))

pub returns : goal.returns
returns c =
    let a = c.args in
    written (bytes_of_lists binary64) _ _ _ _ _
    (matrix_read a.dim (rule_of a.call) a.rows.now a.cols.now a.element.now a.offsets.now a.columns.now a.diagonal.now a.values.now _ _ _ _ _ _
    c.decode_pattern.ensures.0 c.decode_pattern.ensures.1 c.decode_lists.ensures.0 c.decode_lists.ensures.1 c.in_ok-assemble_words.ensures) _ _ refl refl
    (both_are c.encode_lists.ensures.0 c.encode_lists.ensures.1)
