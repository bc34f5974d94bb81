-- `check_factor_bytes` meets its promise: the matrix refuses it, or the splits and the other bytes decide.
-- Assumes nothing.
use Rattle.std.proofs.Common.{rules}
use Rattle.answers.proofs.SameAnswer.{passed_up}
use mathlib.Core.Path.{◌≡◌, sym, ◌∙◌}
use mathlib.Core.List.{◌++◌}
use Prim.Native.Nat.{◌/◌}
use borrow.Author.Tests.{eq-eqb, ne_eqb}
use Rattle.answers.specs.Checks.{first_of}
use Rattle.matrix.specs.Checks.{matrix_lengths}
use Rattle.pattern_bytes.specs.Checks.{byte_checks}
use Rattle.matrix_bytes.specs.Checks.{misshapen}
use Rattle.factor_bytes.proofs.CheckLaws.{matrix_refuses, splits_decide, some_offsets}
use Rattle.factor_bytes.proofs.check_factor_bytes.Goals as goal

pub returns-in_err-check_matrix_bytes : goal.returns-in_err-check_matrix_bytes
returns-in_err-check_matrix_bytes c =
    let on = passed_up (search rules) c.in_err-check_matrix_bytes.ensures in
    let a = c.args in
    let first = on.number in
    first ∙ matrix_refuses a.dim a.offsets a.columns a.splits a.diagonal a.values a.torn (λ z. on.counts (first ∙ z))

pub returns-then-is_broken_index : goal.returns-then-is_broken_index
returns-then-is_broken_index c =
    -- past the first test the matrix is not refused
    let passed : (let a = c.args in first_of (byte_checks a.offsets a.columns (misshapen a.dim a.offsets a.columns a.values a.diagonal) ++ matrix_lengths a.dim (a.offsets / 4) (a.columns / 4) (a.values / 8) (a.diagonal / 8)) ≡ 0) = sym c.in_ok-check_matrix_bytes.ensures in
    let a = c.args in
    sym (splits_decide a.dim a.offsets a.columns a.splits a.diagonal a.values a.torn passed ∙ rw (sym c.is_broken_index.ensures ∙ c.if-is_broken_index.true))

pub returns-then-torn : goal.returns-then-torn
returns-then-torn c =
    -- past the first test the matrix is not refused
    let passed : (let a = c.args in first_of (byte_checks a.offsets a.columns (misshapen a.dim a.offsets a.columns a.values a.diagonal) ++ matrix_lengths a.dim (a.offsets / 4) (a.columns / 4) (a.values / 8) (a.diagonal / 8)) ≡ 0) = sym c.in_ok-check_matrix_bytes.ensures in
    let a = c.args in
    sym (splits_decide a.dim a.offsets a.columns a.splits a.diagonal a.values a.torn passed ∙ rw (sym c.is_broken_index.ensures ∙ c.if-is_broken_index.false, c.if-torn.true))

pub overflow_sub-offsets : goal.overflow_sub-offsets
overflow_sub-offsets c =
    -- past the first test the matrix is not refused
    let passed : (let a = c.args in first_of (byte_checks a.offsets a.columns (misshapen a.dim a.offsets a.columns a.values a.diagonal) ++ matrix_lengths a.dim (a.offsets / 4) (a.columns / 4) (a.values / 8) (a.diagonal / 8)) ≡ 0) = sym c.in_ok-check_matrix_bytes.ensures in
    let a = c.args in some_offsets a.dim a.offsets a.columns a.splits a.diagonal a.values a.torn passed

pub returns-then-splits-offsets : goal.returns-then-splits-offsets
returns-then-splits-offsets c =
    -- past the first test the matrix is not refused
    let passed : (let a = c.args in first_of (byte_checks a.offsets a.columns (misshapen a.dim a.offsets a.columns a.values a.diagonal) ++ matrix_lengths a.dim (a.offsets / 4) (a.columns / 4) (a.values / 8) (a.diagonal / 8)) ≡ 0) = sym c.in_ok-check_matrix_bytes.ensures in
    let a = c.args in
    sym (splits_decide a.dim a.offsets a.columns a.splits a.diagonal a.values a.torn passed ∙ rw (sym c.is_broken_index.ensures ∙ c.if-is_broken_index.false, c.if-torn.false, ne_eqb _ _ c.if-splits-offsets.true))

pub returns : goal.returns
returns c =
    -- past the first test the matrix is not refused
    let passed : (let a = c.args in first_of (byte_checks a.offsets a.columns (misshapen a.dim a.offsets a.columns a.values a.diagonal) ++ matrix_lengths a.dim (a.offsets / 4) (a.columns / 4) (a.values / 8) (a.diagonal / 8)) ≡ 0) = sym c.in_ok-check_matrix_bytes.ensures in
    let a = c.args in
    c.in_ok-check_matrix_bytes.ensures ∙ passed
    ∙ sym (splits_decide a.dim a.offsets a.columns a.splits a.diagonal a.values a.torn passed ∙ rw (sym c.is_broken_index.ensures ∙ c.if-is_broken_index.false, c.if-torn.false, eq-eqb _ _ c.if-splits-offsets.false))
