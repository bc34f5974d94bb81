-- `decompose` meets its promise: refused with every word as it was, stopped at a row, or done.
-- Assumes nothing.
use Rattle.std.proofs.Common.{rules}
use Rattle.answers.proofs.SameAnswer.{passed_up}
use mathlib.Core.Path.{◌≡◌, sym}
use native.Mathlib.Omega.{arith}
use lib.ListN.{length}
use lib.Ieee.{binary64}
use Rattle.answers.specs.Checks.{first_of}
use Rattle.lent.proofs.DimLaws.{dim_of}
use Rattle.factor_check.specs.Fits.{FactorFits}
use Rattle.reducing.specs.Lent.{pattern_of, factor_of}
use Rattle.decompose.specs.Promise.{earlier_checks}
use Rattle.decompose.proofs.CheckLaws.{checked_fits, refused_before, stopped_at_row, done_at_end}
use Rattle.decompose.proofs.decompose.Goals as goal

pub returns-in_err-check_decompose : goal.returns-in_err-check_decompose
returns-in_err-check_decompose g c =
    let on = passed_up (search rules) c.in_err-check_decompose.ensures in
    let a = c.args in
    refused_before binary64 g.S.Size.DIM (pattern_of a.offsets.now a.columns.now a.splits.now) (factor_of a.diagonal.now a.values.now) _ on.number on.counts

pub decompose-row-requires : goal.decompose-row-requires
decompose-row-requires g c =
    -- past the checks
    let passed : (let a = c.args in first_of (earlier_checks g.S.Size.DIM a.offsets.now a.columns.now a.splits.now (length a.diagonal.now) (length a.values.now)) ≡ 0) = sym c.in_ok-check_decompose.ensures in
    let fits : (let a = c.args in FactorFits g.S.Size.DIM a.offsets.now a.columns.now a.splits.now (length a.diagonal.now) (length a.values.now)) = let a = c.args in checked_fits g.S.Size.DIM a.offsets.now a.columns.now a.splits.now (length a.diagonal.now) (length a.values.now) (dim_of g.met.S.Size.sizes) passed in
    fits

pub overflow_sub-offsets : goal.overflow_sub-offsets
overflow_sub-offsets g c =
    -- past the checks
    let passed : (let a = c.args in first_of (earlier_checks g.S.Size.DIM a.offsets.now a.columns.now a.splits.now (length a.diagonal.now) (length a.values.now)) ≡ 0) = sym c.in_ok-check_decompose.ensures in
    let fits : (let a = c.args in FactorFits g.S.Size.DIM a.offsets.now a.columns.now a.splits.now (length a.diagonal.now) (length a.values.now)) = let a = c.args in checked_fits g.S.Size.DIM a.offsets.now a.columns.now a.splits.now (length a.diagonal.now) (length a.values.now) (dim_of g.met.S.Size.sizes) passed in
    omega (arith, fits.matrix.some)

pub overflow_cast-result : goal.overflow_cast-result
overflow_cast-result g c =
    -- past the checks
    let passed : (let a = c.args in first_of (earlier_checks g.S.Size.DIM a.offsets.now a.columns.now a.splits.now (length a.diagonal.now) (length a.values.now)) ≡ 0) = sym c.in_ok-check_decompose.ensures in
    let fits : (let a = c.args in FactorFits g.S.Size.DIM a.offsets.now a.columns.now a.splits.now (length a.diagonal.now) (length a.values.now)) = let a = c.args in checked_fits g.S.Size.DIM a.offsets.now a.columns.now a.splits.now (length a.diagonal.now) (length a.values.now) (dim_of g.met.S.Size.sizes) passed in
    record { fits = omega (arith, fits.rows, c.if-row-offsets.true) }

pub returns-then-row-offsets : goal.returns-then-row-offsets
returns-then-row-offsets g c =
    -- past the checks
    let passed : (let a = c.args in first_of (earlier_checks g.S.Size.DIM a.offsets.now a.columns.now a.splits.now (length a.diagonal.now) (length a.values.now)) ≡ 0) = sym c.in_ok-check_decompose.ensures in
    let a = c.args in
    stopped_at_row binary64 g.S.Size.DIM (pattern_of a.offsets.now a.columns.now a.splits.now) (factor_of a.diagonal.now a.values.now) passed _ _ c.decompose-row.ensures c.if-row-offsets.true

pub returns : goal.returns
returns g c =
    -- past the checks
    let passed : (let a = c.args in first_of (earlier_checks g.S.Size.DIM a.offsets.now a.columns.now a.splits.now (length a.diagonal.now) (length a.values.now)) ≡ 0) = sym c.in_ok-check_decompose.ensures in
    let a = c.args in
    done_at_end binary64 g.S.Size.DIM (pattern_of a.offsets.now a.columns.now a.splits.now) (factor_of a.diagonal.now a.values.now) passed _ _ c.decompose-row.ensures c.if-row-offsets.false
