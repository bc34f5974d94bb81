-- `check_solve_bytes` meets its promise: the factor refuses it, or the length of the vector decides.
-- Assumes nothing.
use Rattle.std.proofs.Common.{rules}
use Rattle.answers.proofs.SameAnswer.{passed_up}
use mathlib.Core.Path.{◌≡◌, refl, sym, ◌∙◌}
use mathlib.Core.List.{◌++◌}
use Prim.Native.Nat.{◌/◌}
use native.Mathlib.Omega.{arith}
use borrow.Author.Tests.{eq-eqb, ne_eqb}
use Rattle.answers.specs.Checks.{first_of}
use Rattle.pattern_bytes.specs.Checks.{broken, byte_checks}
use Rattle.factor_bytes.specs.Checks.{factor_lengths}
use Rattle.factor_bytes.proofs.CheckLaws.{has_offsets, words_in_full}
use Rattle.solve_bytes.specs.Checks.{misshapen_solve}
use Rattle.solve_bytes.proofs.CheckLaws.{factor_refuses, vector_decides}
use Rattle.solve_bytes.proofs.check_solve_bytes.Goals as goal

pub returns-in_err-check_factor_bytes : goal.returns-in_err-check_factor_bytes
returns-in_err-check_factor_bytes c =
    let on = passed_up {answer = c.from_residual.result} (search rules) c.in_err-check_factor_bytes.ensures in
    let a = c.args in
    let first = rw c.is_broken_value-torn.ensures at on.number in
    first ∙ factor_refuses a.dim a.offsets a.columns a.splits a.diagonal a.values a.vec (λ z. on.counts (first ∙ z))

pub overflow_sub-offsets : goal.overflow_sub-offsets
overflow_sub-offsets c =
    -- past the first test the factor is not refused
    let passed : (let a = c.args in
    first_of (byte_checks a.offsets a.columns (misshapen_solve a.dim a.offsets a.columns a.splits a.diagonal a.values a.vec) ++ factor_lengths a.dim (a.offsets / 4) (a.columns / 4) (a.splits / 4) (a.diagonal / 8) (a.values / 8)) ≡ 0) = sym (rw c.is_broken_value-torn.ensures at c.in_ok-check_factor_bytes.ensures) in
    let a = c.args in has_offsets a.dim a.offsets a.columns a.splits a.diagonal a.values (broken 8 a.vec) passed

pub overflow_mul-dim : goal.overflow_mul-dim
overflow_mul-dim c =
    -- past the first test the factor is not refused
    let passed : (let a = c.args in
    first_of (byte_checks a.offsets a.columns (misshapen_solve a.dim a.offsets a.columns a.splits a.diagonal a.values a.vec) ++ factor_lengths a.dim (a.offsets / 4) (a.columns / 4) (a.splits / 4) (a.diagonal / 8) (a.values / 8)) ≡ 0) = sym (rw c.is_broken_value-torn.ensures at c.in_ok-check_factor_bytes.ensures) in
    let a = c.args in omega (arith, words_in_full a.dim a.offsets a.columns a.splits a.diagonal a.values (broken 8 a.vec) passed _ refl)

pub returns-then-vec-dim : goal.returns-then-vec-dim
returns-then-vec-dim c =
    -- past the first test the factor is not refused
    let passed : (let a = c.args in
    first_of (byte_checks a.offsets a.columns (misshapen_solve a.dim a.offsets a.columns a.splits a.diagonal a.values a.vec) ++ factor_lengths a.dim (a.offsets / 4) (a.columns / 4) (a.splits / 4) (a.diagonal / 8) (a.values / 8)) ≡ 0) = sym (rw c.is_broken_value-torn.ensures at c.in_ok-check_factor_bytes.ensures) in
    let a = c.args in
    sym (vector_decides a.dim a.offsets a.columns a.splits a.diagonal a.values a.vec passed ∙ rw (ne_eqb _ _ c.if-vec-dim.true))

pub returns : goal.returns
returns c =
    -- past the first test the factor is not refused
    let passed : (let a = c.args in
    first_of (byte_checks a.offsets a.columns (misshapen_solve a.dim a.offsets a.columns a.splits a.diagonal a.values a.vec) ++ factor_lengths a.dim (a.offsets / 4) (a.columns / 4) (a.splits / 4) (a.diagonal / 8) (a.values / 8)) ≡ 0) = sym (rw c.is_broken_value-torn.ensures at c.in_ok-check_factor_bytes.ensures) in
    let a = c.args in
    rw c.is_broken_value-torn.ensures at c.in_ok-check_factor_bytes.ensures ∙ passed
    ∙ sym (vector_decides a.dim a.offsets a.columns a.splits a.diagonal a.values a.vec passed ∙ rw (eq-eqb _ _ c.if-vec-dim.false))
