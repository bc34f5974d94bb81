-- `unchecked::check_decompose` meets its promise: each return answers the first check that holds.
-- Assumes nothing.
use mathlib.Core.Path.{◌≡◌, sym, ◌∙◌}
use mathlib.Core.Bool.{false}
use native.Mathlib.Omega.{arith}
use lib.ListN.{length}
use Rattle.patterns.specs.Pattern.{rows_of}
use Rattle.patterns.specs.Checks.{too_large}
use Rattle.patterns.proofs.SizeLaws.{rows_least, rows_most, columns_most}
use Rattle.factor_check.specs.Checks.{wrong_factor}
use Rattle.factor_check.proofs.CheckLaws.{splits_are}
use Rattle.decompose.proofs.unchecked.check_decompose.Goals as goal

pub returns-then-is_too_large : goal.returns-then-is_too_large
returns-then-is_too_large g c = rw (sym c.is_too_large.ensures ∙ c.if-is_too_large.true)

pub overflow_sub-rows : goal.overflow_sub-rows
overflow_sub-rows g c =
    -- past the first test the pattern is not too large
    let sized : too_large (length c.args.offsets.now) (length c.args.columns.now) ≡ false = sym c.is_too_large.ensures ∙ c.if-is_too_large.false in
    let a = c.args in omega (arith, rows_least (length a.offsets.now) (length a.columns.now) sized)

pub is_wrong_factor-requires : goal.is_wrong_factor-requires
is_wrong_factor-requires g c =
    -- past the first test the pattern is not too large
    let sized : too_large (length c.args.offsets.now) (length c.args.columns.now) ≡ false = sym c.is_too_large.ensures ∙ c.if-is_too_large.false in
    let a = c.args in
    (rows_most (length a.offsets.now) (length a.columns.now) sized, columns_most (length a.offsets.now) (length a.columns.now) sized)

pub returns-then-is_wrong_factor : goal.returns-then-is_wrong_factor
returns-then-is_wrong_factor g c =
    -- past the first test the pattern is not too large
    let sized : too_large (length c.args.offsets.now) (length c.args.columns.now) ≡ false = sym c.is_too_large.ensures ∙ c.if-is_too_large.false in
    rw (sized, sym c.is_wrong_factor.ensures ∙ c.if-is_wrong_factor.true)

pub check_rows-requires : goal.check_rows-requires
check_rows-requires g c =
    -- past the first test the pattern is not too large
    let sized : too_large (length c.args.offsets.now) (length c.args.columns.now) ≡ false = sym c.is_too_large.ensures ∙ c.if-is_too_large.false in
    -- past the second no length is wrong
    let shaped : (let a = c.args in wrong_factor g.S.Size.DIM (rows_of a.offsets.now) (length a.columns.now) (length a.splits.now) a.diagonal a.values ≡ false) = sym c.is_wrong_factor.ensures ∙ c.if-is_wrong_factor.false in
    let a = c.args in
    (sized, splits_are g.S.Size.DIM (rows_of a.offsets.now) (length a.columns.now) (length a.splits.now) a.diagonal a.values shaped)

pub returns : goal.returns
returns g c =
    -- past the first test the pattern is not too large
    let sized : too_large (length c.args.offsets.now) (length c.args.columns.now) ≡ false = sym c.is_too_large.ensures ∙ c.if-is_too_large.false in
    -- past the second no length is wrong
    let shaped : (let a = c.args in wrong_factor g.S.Size.DIM (rows_of a.offsets.now) (length a.columns.now) (length a.splits.now) a.diagonal a.values ≡ false) = sym c.is_wrong_factor.ensures ∙ c.if-is_wrong_factor.false in
    rw (sized, shaped) c.check_rows.ensures
