-- `unchecked::check_vectors` meets its promise: a matrix that is refused is the answer, else the two slices decide.
-- Assumes nothing.
use Rattle.std.proofs.Common.{rules}
use Rattle.answers.proofs.SameAnswer.{passed_up}
use mathlib.Core.Path.{◌≡◌, sym, ◌∙◌}
use native.Mathlib.Omega.{arith}
use Rattle.answers.specs.Checks.{first_of}
use Rattle.matrix.specs.Checks.{matrix_lengths}
use Rattle.lent.proofs.DimLaws.{dim_of}
use Rattle.matrix.proofs.CheckLaws.{offsets_least, vector_most, sized, matrix_refused, first_wrong_lem, second_wrong, both_right}
use Rattle.matrix.proofs.unchecked.check_vectors.Goals as goal

pub returns-in_err-check_matrix : goal.returns-in_err-check_matrix
returns-in_err-check_matrix g c =
    let on = passed_up (search rules) c.in_err-check_matrix.ensures in
    let a = c.args in
    on.number ∙ matrix_refused g.S.Size.DIM a.offsets a.columns a.values a.diagonal a.first a.second
    (λ z. on.counts (on.number ∙ z))

pub overflow_sub-all : goal.overflow_sub-all
overflow_sub-all g c =
    -- past the first test the matrix is not refused
    let passed : (let a = c.args in first_of (matrix_lengths g.S.Size.DIM a.offsets a.columns a.values a.diagonal) ≡ 0) = sym c.in_ok-check_matrix.ensures in
    let a = c.args in
    omega (arith, offsets_least g.S.Size.DIM a.offsets a.columns (dim_of g.met.S.Size.sizes) (sized g.S.Size.DIM a.offsets a.columns a.values a.diagonal passed))

pub overflow_mul-all : goal.overflow_mul-all
overflow_mul-all g c =
    -- past the first test the matrix is not refused
    let passed : (let a = c.args in first_of (matrix_lengths g.S.Size.DIM a.offsets a.columns a.values a.diagonal) ≡ 0) = sym c.in_ok-check_matrix.ensures in
    let a = c.args in
    rw c.DIM.ensures record { fits = omega (arith, vector_most g.S.Size.DIM a.offsets a.columns (dim_of g.met.S.Size.sizes) (sized g.S.Size.DIM a.offsets a.columns a.values a.diagonal passed)) }

pub returns-then-first-all : goal.returns-then-first-all
returns-then-first-all g c =
    -- past the first test the matrix is not refused
    let passed : (let a = c.args in first_of (matrix_lengths g.S.Size.DIM a.offsets a.columns a.values a.diagonal) ≡ 0) = sym c.in_ok-check_matrix.ensures in
    let a = c.args in sym (first_wrong_lem g.S.Size.DIM a.offsets a.columns a.values a.diagonal passed a.first a.second (rw c.DIM.ensures at c.if-first-all.true))

pub returns-then-second-all : goal.returns-then-second-all
returns-then-second-all g c =
    -- past the first test the matrix is not refused
    let passed : (let a = c.args in first_of (matrix_lengths g.S.Size.DIM a.offsets a.columns a.values a.diagonal) ≡ 0) = sym c.in_ok-check_matrix.ensures in
    let a = c.args in sym (second_wrong g.S.Size.DIM a.offsets a.columns a.values a.diagonal passed a.first a.second (rw c.DIM.ensures at c.if-first-all.false) (rw c.DIM.ensures at c.if-second-all.true))

pub returns : goal.returns
returns g c =
    -- past the first test the matrix is not refused
    let passed : (let a = c.args in first_of (matrix_lengths g.S.Size.DIM a.offsets a.columns a.values a.diagonal) ≡ 0) = sym c.in_ok-check_matrix.ensures in
    let a = c.args in
    c.in_ok-check_matrix.ensures ∙ passed ∙ sym (both_right g.S.Size.DIM a.offsets a.columns a.values a.diagonal passed a.first a.second (rw c.DIM.ensures at c.if-first-all.false) (rw c.DIM.ensures at c.if-second-all.false))
