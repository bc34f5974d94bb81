-- `check_copy_bytes` meets its promise: the sizes refuse it, then A, then the factor, and last the numbers of rows.
-- Assumes nothing.
use Rattle.std.proofs.Common.{rules}
use Rattle.answers.proofs.SameAnswer.{passed_up}
use mathlib.Core.Path.{◌≡◌, sym, ◌∙◌}
use mathlib.Core.List.{◌++◌}
use mathlib.Core.Bool.{false, ◌||◌}
use Prim.Native.Nat.{◌/◌}
use Rattle.answers.specs.Checks.{first_of}
use Rattle.matrix.specs.Checks.{matrix_lengths}
use Rattle.pattern_bytes.specs.Checks.{byte_checks}
use Rattle.matrix_bytes.specs.Checks.{misshapen}
use Rattle.factor_bytes.specs.Checks.{misshapen_factor, factor_lengths}
use Rattle.copy_bytes.proofs.CheckLaws.{size_refuses, a_refuses, factor_refuses, rows_differ, rows_same}
use Rattle.copy_bytes.proofs.check_copy_bytes.Goals as goal

pub returns-then-is_too_large : goal.returns-then-is_too_large
returns-then-is_too_large c =
    let a = c.args in
    sym (size_refuses a.dim a.starts a.entries a.a_diagonal a.a_values a.offsets a.columns a.splits a.diagonal a.values (sym c.is_too_large.ensures ∙ c.if-is_too_large.true))

pub returns-in_err-check_matrix_bytes : goal.returns-in_err-check_matrix_bytes
returns-in_err-check_matrix_bytes c =
    let a = c.args in
    let on = passed_up (search rules) c.in_err-check_matrix_bytes.ensures in
    on.number ∙ a_refuses a.dim a.starts a.entries a.a_diagonal a.a_values a.offsets a.columns a.splits a.diagonal a.values (sym c.is_too_large.ensures ∙ c.if-is_too_large.false)
    (λ z. on.counts (on.number ∙ z))

pub returns-in_err-check_factor_bytes : goal.returns-in_err-check_factor_bytes
returns-in_err-check_factor_bytes c =
    -- past the second test A is not refused, and past the third the factor
    let of_a : (let a = c.args in
    first_of (byte_checks a.starts a.entries (misshapen a.dim a.starts a.entries a.a_values a.a_diagonal) ++ matrix_lengths a.dim (a.starts / 4) (a.entries / 4) (a.a_values / 8) (a.a_diagonal / 8)) ≡ 0) = sym c.in_ok-check_matrix_bytes.ensures in
    let a = c.args in
    let on = passed_up (search rules) c.in_err-check_factor_bytes.ensures in
    on.number ∙ factor_refuses a.dim a.starts a.entries a.a_diagonal a.a_values a.offsets a.columns a.splits a.diagonal a.values of_a (λ z. on.counts (on.number ∙ z))

pub returns-then-offsets-starts : goal.returns-then-offsets-starts
returns-then-offsets-starts c =
    -- past the second test A is not refused, and past the third the factor
    let of_a : (let a = c.args in
    first_of (byte_checks a.starts a.entries (misshapen a.dim a.starts a.entries a.a_values a.a_diagonal) ++ matrix_lengths a.dim (a.starts / 4) (a.entries / 4) (a.a_values / 8) (a.a_diagonal / 8)) ≡ 0) = sym c.in_ok-check_matrix_bytes.ensures in
    let of_factor : (let a = c.args in
    first_of (byte_checks a.offsets a.columns (misshapen_factor a.dim a.offsets a.columns a.splits a.diagonal a.values || false) ++ factor_lengths a.dim (a.offsets / 4) (a.columns / 4) (a.splits / 4) (a.diagonal / 8) (a.values / 8)) ≡ 0) = sym c.in_ok-check_factor_bytes.ensures in
    let a = c.args in
    sym (rows_differ a.dim a.starts a.entries a.a_diagonal a.a_values a.offsets a.columns a.splits a.diagonal a.values of_a of_factor c.if-offsets-starts.true)

pub returns : goal.returns
returns c =
    -- past the second test A is not refused, and past the third the factor
    let of_a : (let a = c.args in
    first_of (byte_checks a.starts a.entries (misshapen a.dim a.starts a.entries a.a_values a.a_diagonal) ++ matrix_lengths a.dim (a.starts / 4) (a.entries / 4) (a.a_values / 8) (a.a_diagonal / 8)) ≡ 0) = sym c.in_ok-check_matrix_bytes.ensures in
    let of_factor : (let a = c.args in
    first_of (byte_checks a.offsets a.columns (misshapen_factor a.dim a.offsets a.columns a.splits a.diagonal a.values || false) ++ factor_lengths a.dim (a.offsets / 4) (a.columns / 4) (a.splits / 4) (a.diagonal / 8) (a.values / 8)) ≡ 0) = sym c.in_ok-check_factor_bytes.ensures in
    let a = c.args in
    c.in_ok-check_factor_bytes.ensures ∙ of_factor
    ∙ sym (rows_same a.dim a.starts a.entries a.a_diagonal a.a_values a.offsets a.columns a.splits a.diagonal a.values of_a of_factor c.if-offsets-starts.false)
