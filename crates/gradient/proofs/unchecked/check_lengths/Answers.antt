-- `unchecked::check_lengths` meets its promise: each return answers the first check that holds.
-- Assumes nothing.
use mathlib.Core.Path.{◌≡◌, sym, ◌∙◌}
use mathlib.Core.Bool.{false}
use native.Mathlib.Omega.{arith}
use Rattle.patterns.specs.Checks.{too_large}
use Rattle.patterns.proofs.SizeLaws.{rows_least, rows_most, columns_most}
use Rattle.gradient.proofs.unchecked.check_lengths.Goals as goal

pub returns-then-is_too_large : goal.returns-then-is_too_large
returns-then-is_too_large g c = rw (sym c.is_too_large.ensures ∙ c.if-is_too_large.true)

pub returns-then-out_of_range : goal.returns-then-out_of_range
returns-then-out_of_range g c =
    -- past the first test the pattern is not too large
    let small : too_large c.args.offsets c.args.columns ≡ false = sym c.is_too_large.ensures ∙ c.if-is_too_large.false in
    rw (small, sym c.out_of_range.ensures ∙ c.if-out_of_range.true)

pub overflow_sub-rows : goal.overflow_sub-rows
overflow_sub-rows g c =
    -- past the first test the pattern is not too large
    let small : too_large c.args.offsets c.args.columns ≡ false = sym c.is_too_large.ensures ∙ c.if-is_too_large.false in
    let a = c.args in omega (arith, rows_least a.offsets a.columns small)

pub is_misshapen-requires : goal.is_misshapen-requires
is_misshapen-requires g c =
    -- past the first test the pattern is not too large
    let small : too_large c.args.offsets c.args.columns ≡ false = sym c.is_too_large.ensures ∙ c.if-is_too_large.false in
    (rows_most c.args.offsets c.args.columns small, columns_most c.args.offsets c.args.columns small)

pub returns-then-is_misshapen : goal.returns-then-is_misshapen
returns-then-is_misshapen g c =
    -- past the first test the pattern is not too large
    let small : too_large c.args.offsets c.args.columns ≡ false = sym c.is_too_large.ensures ∙ c.if-is_too_large.false in
    rw (small, sym c.out_of_range.ensures ∙ c.if-out_of_range.false, sym c.is_misshapen.ensures ∙ c.if-is_misshapen.true)

pub returns : goal.returns
returns g c =
    -- past the first test the pattern is not too large
    let small : too_large c.args.offsets c.args.columns ≡ false = sym c.is_too_large.ensures ∙ c.if-is_too_large.false in
    rw (small, sym c.out_of_range.ensures ∙ c.if-out_of_range.false, sym c.is_misshapen.ensures ∙ c.if-is_misshapen.false)
