-- `unchecked::check_lengths` meets its promise: each return answers the first check that holds.
-- Assumes nothing.
use mathlib.Core.Path.{◌≡◌, sym, ◌∙◌}
use mathlib.Core.Bool.{false}
use native.Mathlib.Omega.{arith}
use borrow.Author.Tests.{eq-eqb, ne_eqb}
use Rattle.patterns.specs.Checks.{too_large}
use Rattle.patterns.proofs.SizeLaws.{rows_most, columns_most}
use Rattle.matrix.proofs.CheckLaws.{vector_most, offsets_least}
use Rattle.lent.proofs.DimLaws.{dim_of}
use Rattle.precondition.proofs.unchecked.check_lengths.Goals as goal

pub returns-then-is_too_large : goal.returns-then-is_too_large
returns-then-is_too_large g c = rw (sym c.is_too_large.ensures ∙ c.if-is_too_large.true)

pub overflow_sub-rows : goal.overflow_sub-rows
overflow_sub-rows g c =
    -- past the first test the pattern is not too large
    let sized : too_large c.args.offsets c.args.columns ≡ false = sym c.is_too_large.ensures ∙ c.if-is_too_large.false in
    omega (arith, offsets_least g.S.Size.DIM c.args.offsets c.args.columns (dim_of g.met.S.Size.sizes) sized)

pub is_wrong_factor-requires : goal.is_wrong_factor-requires
is_wrong_factor-requires g c =
    -- past the first test the pattern is not too large
    let sized : too_large c.args.offsets c.args.columns ≡ false = sym c.is_too_large.ensures ∙ c.if-is_too_large.false in
    (rows_most c.args.offsets c.args.columns sized, columns_most c.args.offsets c.args.columns sized)

pub returns-then-is_wrong_factor : goal.returns-then-is_wrong_factor
returns-then-is_wrong_factor g c =
    -- past the first test the pattern is not too large
    let sized : too_large c.args.offsets c.args.columns ≡ false = sym c.is_too_large.ensures ∙ c.if-is_too_large.false in
    rw (sized, sym c.is_wrong_factor.ensures ∙ c.if-is_wrong_factor.true)

pub overflow_mul-DIM : goal.overflow_mul-DIM
overflow_mul-DIM g c =
    -- past the first test the pattern is not too large
    let sized : too_large c.args.offsets c.args.columns ≡ false = sym c.is_too_large.ensures ∙ c.if-is_too_large.false in
    rw c.DIM.ensures record { fits = omega (arith, vector_most g.S.Size.DIM c.args.offsets c.args.columns (dim_of g.met.S.Size.sizes) sized) }

pub returns-then-vec-DIM : goal.returns-then-vec-DIM
returns-then-vec-DIM g c =
    -- past the first test the pattern is not too large
    let sized : too_large c.args.offsets c.args.columns ≡ false = sym c.is_too_large.ensures ∙ c.if-is_too_large.false in
    rw (sized, sym c.is_wrong_factor.ensures ∙ c.if-is_wrong_factor.false, ne_eqb _ _ (rw c.DIM.ensures at c.if-vec-DIM.true))

pub returns : goal.returns
returns g c =
    -- past the first test the pattern is not too large
    let sized : too_large c.args.offsets c.args.columns ≡ false = sym c.is_too_large.ensures ∙ c.if-is_too_large.false in
    rw (sized, sym c.is_wrong_factor.ensures ∙ c.if-is_wrong_factor.false, eq-eqb _ _ (rw c.DIM.ensures at c.if-vec-DIM.false))
