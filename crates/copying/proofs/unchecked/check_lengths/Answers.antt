-- `unchecked::check_lengths` meets its promise: each return answers the first check that holds.
-- Assumes nothing.
use mathlib.Core.Path.{◌≡◌, sym, ◌∙◌}
use mathlib.Core.Bool.{false}
use native.Mathlib.Omega.{arith}
use borrow.Author.Tests.{eq-eqb, ne_eqb}
use Rattle.patterns.specs.Checks.{too_large}
use Rattle.patterns.proofs.SizeLaws.{rows_least, rows_most, columns_most}
use Rattle.copying.proofs.unchecked.check_lengths.Goals as goal

pub returns-then-is_too_large : goal.returns-then-is_too_large
returns-then-is_too_large g c = rw (sym c.is_too_large.ensures ∙ c.if-is_too_large.true)

pub returns-then-is_too_large-2 : goal.returns-then-is_too_large-2
returns-then-is_too_large-2 g c =
    -- past the first two tests neither pattern is too large
    let sized : too_large c.args.starts c.args.entries ≡ false = sym c.is_too_large.ensures ∙ c.if-is_too_large.false in
    rw (sized, sym c.is_too_large-2.ensures ∙ c.if-is_too_large-2.true)

pub overflow_sub-rows : goal.overflow_sub-rows
overflow_sub-rows g c =
    -- past the first two tests neither pattern is too large
    let sized : too_large c.args.starts c.args.entries ≡ false = sym c.is_too_large.ensures ∙ c.if-is_too_large.false in
    let a = c.args in
    omega (arith, rows_least a.starts a.entries sized)

pub overflow_sub-factor_rows : goal.overflow_sub-factor_rows
overflow_sub-factor_rows g c =
    let sized_factor : too_large c.args.offsets c.args.columns ≡ false = sym c.is_too_large-2.ensures ∙ c.if-is_too_large-2.false in
    let a = c.args in
    omega (arith, rows_least a.offsets a.columns sized_factor)

pub returns-then-factor_rows-rows : goal.returns-then-factor_rows-rows
returns-then-factor_rows-rows g c =
    -- past the first two tests neither pattern is too large
    let sized : too_large c.args.starts c.args.entries ≡ false = sym c.is_too_large.ensures ∙ c.if-is_too_large.false in
    let sized_factor : too_large c.args.offsets c.args.columns ≡ false = sym c.is_too_large-2.ensures ∙ c.if-is_too_large-2.false in
    rw (sized, sized_factor, ne_eqb _ _ c.if-factor_rows-rows.true)

pub is_wrong_matrix-requires : goal.is_wrong_matrix-requires
is_wrong_matrix-requires g c =
    -- past the first two tests neither pattern is too large
    let sized : too_large c.args.starts c.args.entries ≡ false = sym c.is_too_large.ensures ∙ c.if-is_too_large.false in
    let small = sized in
    (rows_most c.args.starts c.args.entries small, columns_most c.args.starts c.args.entries small)

pub returns-then-is_wrong_matrix : goal.returns-then-is_wrong_matrix
returns-then-is_wrong_matrix g c =
    -- past the first two tests neither pattern is too large
    let sized : too_large c.args.starts c.args.entries ≡ false = sym c.is_too_large.ensures ∙ c.if-is_too_large.false in
    let sized_factor : too_large c.args.offsets c.args.columns ≡ false = sym c.is_too_large-2.ensures ∙ c.if-is_too_large-2.false in
    rw (
      sized,
      sized_factor,
      eq-eqb _ _ c.if-factor_rows-rows.false,
      sym c.is_wrong_matrix.ensures ∙ c.if-is_wrong_matrix.true,
    )

pub is_wrong_matrix-requires-2 : goal.is_wrong_matrix-requires-2
is_wrong_matrix-requires-2 g c =
    let sized_factor : too_large c.args.offsets c.args.columns ≡ false = sym c.is_too_large-2.ensures ∙ c.if-is_too_large-2.false in
    let small = sized_factor in
    (rows_most c.args.offsets c.args.columns small, columns_most c.args.offsets c.args.columns small)

pub returns-then-is_wrong_matrix-2 : goal.returns-then-is_wrong_matrix-2
returns-then-is_wrong_matrix-2 g c =
    -- past the first two tests neither pattern is too large
    let sized : too_large c.args.starts c.args.entries ≡ false = sym c.is_too_large.ensures ∙ c.if-is_too_large.false in
    let sized_factor : too_large c.args.offsets c.args.columns ≡ false = sym c.is_too_large-2.ensures ∙ c.if-is_too_large-2.false in
    rw (
      sized,
      sized_factor,
      eq-eqb _ _ c.if-factor_rows-rows.false,
      sym c.is_wrong_matrix.ensures ∙ c.if-is_wrong_matrix.false,
      sym c.is_wrong_matrix-2.ensures ∙ c.if-is_wrong_matrix-2.true,
    )

pub returns-then-splits-factor_rows : goal.returns-then-splits-factor_rows
returns-then-splits-factor_rows g c =
    -- past the first two tests neither pattern is too large
    let sized : too_large c.args.starts c.args.entries ≡ false = sym c.is_too_large.ensures ∙ c.if-is_too_large.false in
    let sized_factor : too_large c.args.offsets c.args.columns ≡ false = sym c.is_too_large-2.ensures ∙ c.if-is_too_large-2.false in
    rw (
      sized,
      sized_factor,
      eq-eqb _ _ c.if-factor_rows-rows.false,
      sym c.is_wrong_matrix.ensures ∙ c.if-is_wrong_matrix.false,
      sym c.is_wrong_matrix-2.ensures ∙ c.if-is_wrong_matrix-2.false,
      ne_eqb _ _ c.if-splits-factor_rows.true,
    )

pub returns : goal.returns
returns g c =
    -- past the first two tests neither pattern is too large
    let sized : too_large c.args.starts c.args.entries ≡ false = sym c.is_too_large.ensures ∙ c.if-is_too_large.false in
    let sized_factor : too_large c.args.offsets c.args.columns ≡ false = sym c.is_too_large-2.ensures ∙ c.if-is_too_large-2.false in
    rw (
      sized,
      sized_factor,
      eq-eqb _ _ c.if-factor_rows-rows.false,
      sym c.is_wrong_matrix.ensures ∙ c.if-is_wrong_matrix.false,
      sym c.is_wrong_matrix-2.ensures ∙ c.if-is_wrong_matrix-2.false,
      eq-eqb _ _ c.if-splits-factor_rows.false,
    )
