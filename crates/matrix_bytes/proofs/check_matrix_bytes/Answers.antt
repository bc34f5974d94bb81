-- `check_matrix_bytes` meets its promise: the bytes refuse it, or the words decide.
-- Assumes nothing.
use Rattle.std.proofs.Common.{rules}
use Rattle.answers.proofs.SameAnswer.{passed_up}
use mathlib.Core.Path.{◌≡◌, refl, sym, ◌∙◌}
use Prim.Native.Nat.{◌/◌}
use Rattle.answers.specs.Checks.{first_of}
use Rattle.answers.proofs.EndLaws.{none_of_zero, refused_earlier, left_to_later}
use Rattle.pattern_bytes.specs.Checks.{byte_checks}
use Rattle.matrix.specs.Checks.{matrix_lengths}
use Rattle.matrix_bytes.specs.Checks.{misshapen}
use Rattle.numbered.proofs.NumberedLaws.{dim_of}
use Rattle.matrix_bytes.proofs.CheckLaws.{range_of, formed_of}
use Rattle.matrix_bytes.proofs.check_matrix_bytes.Goals as goal

pub returns-in_err-check_bytes : goal.returns-in_err-check_bytes
returns-in_err-check_bytes c =
    let on = passed_up {answer = c.from_residual.result} (search rules) c.in_err-check_bytes.ensures in
    let a = c.args in
    let first = rw c.is_misshapen-wrong.ensures at on.number in
    first ∙ sym (refused_earlier (byte_checks a.offsets a.columns (misshapen a.dim a.offsets a.columns a.values a.diagonal))
    (matrix_lengths a.dim (a.offsets / 4) (a.columns / 4) (a.values / 8) (a.diagonal / 8)) (λ z. on.counts (first ∙ z)))

pub check_matrix-requires : goal.check_matrix-requires
check_matrix-requires c =
    -- past the test the bytes are well formed
    let passed : (let a = c.args in first_of (byte_checks a.offsets a.columns (misshapen a.dim a.offsets a.columns a.values a.diagonal)) ≡ 0) = sym (rw c.is_misshapen-wrong.ensures at c.in_ok-check_bytes.ensures) in
    let a = c.args in
    dim_of a.dim (range_of a.dim a.offsets a.columns a.values a.diagonal (formed_of a.offsets a.columns _ passed))

pub returns : goal.returns
returns c =
    -- past the test the bytes are well formed
    let passed : (let a = c.args in first_of (byte_checks a.offsets a.columns (misshapen a.dim a.offsets a.columns a.values a.diagonal)) ≡ 0) = sym (rw c.is_misshapen-wrong.ensures at c.in_ok-check_bytes.ensures) in
    let a = c.args in
    let earlier = byte_checks a.offsets a.columns (misshapen a.dim a.offsets a.columns a.values a.diagonal) in
    c.check_matrix.ensures ∙ sym (left_to_later earlier (matrix_lengths a.dim (a.offsets / 4) (a.columns / 4) (a.values / 8) (a.diagonal / 8)) (none_of_zero earlier refl passed))
