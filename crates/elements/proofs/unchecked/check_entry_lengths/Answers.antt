-- `unchecked::check_entry_lengths` meets its promise: each return answers the first check that holds.
-- Assumes nothing.
use mathlib.Core.Path.{◌≡◌, sym, ◌∙◌}
use mathlib.Core.Bool.{false}
use native.Mathlib.Omega.{arith}
use Rattle.patterns.specs.Checks.{too_large}
use Rattle.elements.specs.Checks.{wrong_element}
use Rattle.lent.proofs.DimLaws.{dim_of}
use Rattle.elements.proofs.CheckLaws.{entries_most, entry_large, entry_element, entry_values_lem, entry_fits}
use Rattle.elements.proofs.unchecked.check_entry_lengths.Goals as goal

pub returns-then-is_too_large : goal.returns-then-is_too_large
returns-then-is_too_large g c =
    let a = c.args in
    entry_large g.S.Size.DIM a.rows a.cols a.element a.offsets a.columns a.values (sym c.is_too_large.ensures ∙ c.if-is_too_large.true)

pub returns-then-is_wrong_element : goal.returns-then-is_wrong_element
returns-then-is_wrong_element g c =
    -- past the first test the pattern is not too large
    let sized : too_large c.args.offsets c.args.columns ≡ false = sym c.is_too_large.ensures ∙ c.if-is_too_large.false in
    let a = c.args in
    entry_element g.S.Size.DIM a.rows a.cols a.element a.offsets a.columns a.values sized (sym c.is_wrong_element.ensures ∙ c.if-is_wrong_element.true)

pub overflow_mul-block_size : goal.overflow_mul-block_size
overflow_mul-block_size g c =
    -- past the first test the pattern is not too large
    let sized : too_large c.args.offsets c.args.columns ≡ false = sym c.is_too_large.ensures ∙ c.if-is_too_large.false in
    rw c.block_size.ensures.square record { fits = omega (arith, entries_most g.S.Size.DIM c.args.offsets c.args.columns (dim_of g.met.S.Size.sizes) sized) }

pub returns-then-values-block_size : goal.returns-then-values-block_size
returns-then-values-block_size g c =
    -- past the first test the pattern is not too large
    let sized : too_large c.args.offsets c.args.columns ≡ false = sym c.is_too_large.ensures ∙ c.if-is_too_large.false in
    -- past the second the element is right
    let right : (let a = c.args in wrong_element g.S.Size.DIM a.rows a.cols a.element ≡ false) = sym c.is_wrong_element.ensures ∙ c.if-is_wrong_element.false in
    let a = c.args in
    entry_values_lem g.S.Size.DIM a.rows a.cols a.element a.offsets a.columns a.values sized right (rw c.block_size.ensures.square at c.if-values-block_size.true)

pub returns : goal.returns
returns g c =
    -- past the first test the pattern is not too large
    let sized : too_large c.args.offsets c.args.columns ≡ false = sym c.is_too_large.ensures ∙ c.if-is_too_large.false in
    -- past the second the element is right
    let right : (let a = c.args in wrong_element g.S.Size.DIM a.rows a.cols a.element ≡ false) = sym c.is_wrong_element.ensures ∙ c.if-is_wrong_element.false in
    let a = c.args in
    entry_fits g.S.Size.DIM a.rows a.cols a.element a.offsets a.columns a.values sized right (rw c.block_size.ensures.square at c.if-values-block_size.false)
