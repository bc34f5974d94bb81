-- `unchecked::check_element_lengths` meets its promise: what is refused without the diagonal is the answer, else the diagonal decides.
-- Assumes nothing.
use Rattle.std.proofs.Common.{rules}
use Rattle.answers.proofs.SameAnswer.{passed_up}
use mathlib.Core.Path.{◌≡◌, sym, ◌∙◌}
use native.Mathlib.Omega.{arith}
use Rattle.answers.specs.Checks.{first_of}
use Rattle.elements.specs.Checks.{entry_lengths}
use Rattle.lent.proofs.DimLaws.{dim_of}
use Rattle.elements.proofs.CheckLaws.{diagonal_most, offsets_least, sized, entry_refused, diagonal_wrong, diagonal_right}
use Rattle.elements.proofs.unchecked.check_element_lengths.Goals as goal

pub returns-in_err-check_entry_lengths : goal.returns-in_err-check_entry_lengths
returns-in_err-check_entry_lengths g c =
    let on = passed_up (search rules) c.in_err-check_entry_lengths.ensures in
    let a = c.args in
    on.number ∙ entry_refused g.S.Size.DIM a.rows a.cols a.element a.offsets a.columns a.diagonal a.values
    (λ z. on.counts (on.number ∙ z))

pub overflow_sub-offsets : goal.overflow_sub-offsets
overflow_sub-offsets g c =
    -- past the first test nothing is refused without the diagonal
    let passed : (let a = c.args in
    first_of (entry_lengths g.S.Size.DIM a.rows a.cols a.element a.offsets a.columns a.values) ≡ 0) = sym c.in_ok-check_entry_lengths.ensures in
    let a = c.args in
    omega (arith, offsets_least g.S.Size.DIM a.offsets a.columns (dim_of g.met.S.Size.sizes) (sized g.S.Size.DIM a.rows a.cols a.element a.offsets a.columns a.values passed))

pub overflow_mul-block_size : goal.overflow_mul-block_size
overflow_mul-block_size g c =
    -- past the first test nothing is refused without the diagonal
    let passed : (let a = c.args in
    first_of (entry_lengths g.S.Size.DIM a.rows a.cols a.element a.offsets a.columns a.values) ≡ 0) = sym c.in_ok-check_entry_lengths.ensures in
    let a = c.args in
    rw c.block_size.ensures.square record { fits = omega (arith, diagonal_most g.S.Size.DIM a.offsets a.columns (dim_of g.met.S.Size.sizes) (sized g.S.Size.DIM a.rows a.cols a.element a.offsets a.columns a.values passed)) }

pub returns-then-diagonal-block_size : goal.returns-then-diagonal-block_size
returns-then-diagonal-block_size g c =
    -- past the first test nothing is refused without the diagonal
    let passed : (let a = c.args in
    first_of (entry_lengths g.S.Size.DIM a.rows a.cols a.element a.offsets a.columns a.values) ≡ 0) = sym c.in_ok-check_entry_lengths.ensures in
    let a = c.args in
    diagonal_wrong g.S.Size.DIM a.rows a.cols a.element a.offsets a.columns a.diagonal a.values passed (rw c.block_size.ensures.square at c.if-diagonal-block_size.true)

pub returns : goal.returns
returns g c =
    -- past the first test nothing is refused without the diagonal
    let passed : (let a = c.args in
    first_of (entry_lengths g.S.Size.DIM a.rows a.cols a.element a.offsets a.columns a.values) ≡ 0) = sym c.in_ok-check_entry_lengths.ensures in
    let a = c.args in
    c.in_ok-check_entry_lengths.ensures ∙ passed
    ∙ diagonal_right g.S.Size.DIM a.rows a.cols a.element a.offsets a.columns a.diagonal a.values passed (rw c.block_size.ensures.square at c.if-diagonal-block_size.false)
