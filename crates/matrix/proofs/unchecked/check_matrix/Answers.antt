-- `unchecked::check_matrix` meets its promise: each return answers the first check that holds.
-- Assumes nothing.
use mathlib.Core.Path.{◌≡◌, sym, ◌∙◌}
use mathlib.Core.Bool.{false}
use native.Mathlib.Omega.{arith}
use Rattle.patterns.specs.Checks.{too_large}
use Rattle.lent.proofs.DimLaws.{dim_of}
use Rattle.matrix.proofs.CheckLaws.{block_most, entries_most, diagonal_most, offsets_least, matrix_large, matrix_entries, matrix_diagonal, matrix_fits}
use Rattle.matrix.proofs.unchecked.check_matrix.Goals as goal

pub returns-then-is_too_large : goal.returns-then-is_too_large
returns-then-is_too_large g c = let a = c.args in sym (matrix_large g.S.Size.DIM a.offsets a.columns a.values a.diagonal (sym c.is_too_large.ensures ∙ c.if-is_too_large.true))

pub overflow_mul-size : goal.overflow_mul-size
overflow_mul-size g c =
    -- past the first test the pattern is not too large
    let sized : too_large c.args.offsets c.args.columns ≡ false = sym c.is_too_large.ensures ∙ c.if-is_too_large.false in
    rw (c.DIM.ensures, c.DIM-2.ensures) record { fits = omega (arith, block_most g.S.Size.DIM c.args.offsets c.args.columns (dim_of g.met.S.Size.sizes) sized) }

pub overflow_mul-size-2 : goal.overflow_mul-size-2
overflow_mul-size-2 g c =
    -- past the first test the pattern is not too large
    let sized : too_large c.args.offsets c.args.columns ≡ false = sym c.is_too_large.ensures ∙ c.if-is_too_large.false in
    rw (c.DIM.ensures, c.DIM-2.ensures) record { fits = omega (arith, entries_most g.S.Size.DIM c.args.offsets c.args.columns (dim_of g.met.S.Size.sizes) sized) }

pub returns-then-values-size : goal.returns-then-values-size
returns-then-values-size g c =
    -- past the first test the pattern is not too large
    let sized : too_large c.args.offsets c.args.columns ≡ false = sym c.is_too_large.ensures ∙ c.if-is_too_large.false in
    let a = c.args in sym (matrix_entries g.S.Size.DIM a.offsets a.columns a.values a.diagonal sized (rw (c.DIM.ensures, c.DIM-2.ensures) at c.if-values-size.true))

pub overflow_sub-offsets : goal.overflow_sub-offsets
overflow_sub-offsets g c =
    -- past the first test the pattern is not too large
    let sized : too_large c.args.offsets c.args.columns ≡ false = sym c.is_too_large.ensures ∙ c.if-is_too_large.false in
    omega (arith, offsets_least g.S.Size.DIM c.args.offsets c.args.columns (dim_of g.met.S.Size.sizes) sized)

pub overflow_mul-size-3 : goal.overflow_mul-size-3
overflow_mul-size-3 g c =
    -- past the first test the pattern is not too large
    let sized : too_large c.args.offsets c.args.columns ≡ false = sym c.is_too_large.ensures ∙ c.if-is_too_large.false in
    rw (c.DIM.ensures, c.DIM-2.ensures) record { fits = omega (arith, diagonal_most g.S.Size.DIM c.args.offsets c.args.columns (dim_of g.met.S.Size.sizes) sized) }

pub returns-then-diagonal-size : goal.returns-then-diagonal-size
returns-then-diagonal-size g c =
    -- past the first test the pattern is not too large
    let sized : too_large c.args.offsets c.args.columns ≡ false = sym c.is_too_large.ensures ∙ c.if-is_too_large.false in
    let a = c.args in sym (matrix_diagonal g.S.Size.DIM a.offsets a.columns a.values a.diagonal sized (rw (c.DIM.ensures, c.DIM-2.ensures) at c.if-values-size.false) (rw (c.DIM.ensures, c.DIM-2.ensures) at c.if-diagonal-size.true))

pub returns : goal.returns
returns g c =
    -- past the first test the pattern is not too large
    let sized : too_large c.args.offsets c.args.columns ≡ false = sym c.is_too_large.ensures ∙ c.if-is_too_large.false in
    let a = c.args in sym (matrix_fits g.S.Size.DIM a.offsets a.columns a.values a.diagonal sized (rw (c.DIM.ensures, c.DIM-2.ensures) at c.if-values-size.false) (rw (c.DIM.ensures, c.DIM-2.ensures) at c.if-diagonal-size.false))
