-- `blkcsr_in` meets its promise: refused with every byte as it was, or done and written.
-- Assumes nothing.
use mathlib.Core.Path.{◌≡◌}
use Rattle.std.specs.Prelude.{Err}
use Rattle.std.proofs.Common.{rules}
use Rattle.answers.proofs.SameAnswer.{refusal_counts}
use mathlib.Core.Path.{refl}
use lib.Ieee.{binary64}
use Rattle.wire.specs.Bytes.{bytes_of}
use Rattle.entry_bytes.proofs.WayLaws.{by_blkcsr, entries_read, written, unwritten}
use Rattle.entry_bytes.proofs.unchecked.blkcsr_in.Goals as goal

pub returns-in_err-blkcsr : goal.returns-in_err-blkcsr
returns-in_err-blkcsr c =
    let same : c.from_residual.result ≡ Err c.in_err-blkcsr.field-0.0 = search rules in
    let a = c.args in
    rw same (unwritten (bytes_of binary64) _ _ _ _ _
    (entries_read a.dim a.rows.now a.cols.now a.element.now a.offsets.now a.columns.now a.values.now _ _ _ _ _
    c.decode_pattern.ensures.0 c.decode_pattern.ensures.1 c.decode.ensures (by_blkcsr binary64 a.dim a.rows.now a.cols.now a.element.now _ _ _ _ _ c.requires.0 c.in_err-blkcsr.ensures)) _ (refusal_counts _))

pub returns : goal.returns
returns c =
    let a = c.args in
    written (bytes_of binary64) _ _ _ _ _
    (entries_read a.dim a.rows.now a.cols.now a.element.now a.offsets.now a.columns.now a.values.now _ _ _ _ _
    c.decode_pattern.ensures.0 c.decode_pattern.ensures.1 c.decode.ensures (by_blkcsr binary64 a.dim a.rows.now a.cols.now a.element.now _ _ _ _ _ c.requires.0 c.in_ok-blkcsr.ensures)) _ _ refl refl c.encode.ensures
