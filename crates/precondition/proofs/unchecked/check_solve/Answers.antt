-- `unchecked::check_solve` meets its promise: refused by its lengths, or what the factor's rows answer.
-- Assumes nothing.
use Rattle.std.proofs.Common.{rules}
use Rattle.answers.proofs.SameAnswer.{passed_up}
use mathlib.Core.Path.{◌≡◌, refl, sym, ◌∙◌}
use mathlib.Core.List.{List}
use lib.ListN.{length}
use borrow.Author.Rules.{rules}
use Rattle.answers.specs.Checks.{Check, first_of}
use Rattle.answers.proofs.EndLaws.{refused_earlier}
use Rattle.factor_check.specs.Checks.{row_checks}
use Rattle.precondition.specs.Checks.{solve_lengths}
use Rattle.precondition.proofs.CheckLaws.{sized, splits_are, by_rules}
use Rattle.precondition.proofs.unchecked.check_solve.Goals as goal

pub returns-in_err-check_lengths : goal.returns-in_err-check_lengths
returns-in_err-check_lengths g c =
    let on = passed_up (search rules) c.in_err-check_lengths.ensures in
    -- the checks by the lengths, and those of the rows
    let lengths : List Check = let a = c.args in solve_lengths g.S.Size.DIM (length a.offsets.now) (length a.columns.now) (length a.splits.now) a.diagonal a.values a.vec in
    let rules : List Check = let a = c.args in row_checks a.offsets.now a.columns.now a.splits.now in
    on.number ∙ sym (refused_earlier lengths rules (λ z. on.counts (on.number ∙ z)))

pub check_rows-requires : goal.check_rows-requires
check_rows-requires g c =
    -- the checks by the lengths, and those of the rows
    let lengths : List Check = let a = c.args in solve_lengths g.S.Size.DIM (length a.offsets.now) (length a.columns.now) (length a.splits.now) a.diagonal a.values a.vec in
    -- past the first test no length is wrong
    let passed : first_of lengths ≡ 0 = sym c.in_ok-check_lengths.ensures in
    let a = c.args in (
      sized g.S.Size.DIM (length a.offsets.now) (length a.columns.now) (length a.splits.now) a.diagonal a.values a.vec passed,
      splits_are g.S.Size.DIM (length a.offsets.now) (length a.columns.now) (length a.splits.now) a.diagonal a.values a.vec passed,
    )

pub returns : goal.returns
returns g c =
    -- the checks by the lengths, and those of the rows
    let lengths : List Check = let a = c.args in solve_lengths g.S.Size.DIM (length a.offsets.now) (length a.columns.now) (length a.splits.now) a.diagonal a.values a.vec in
    let rules : List Check = let a = c.args in row_checks a.offsets.now a.columns.now a.splits.now in
    -- past the first test no length is wrong
    let passed : first_of lengths ≡ 0 = sym c.in_ok-check_lengths.ensures in
    c.check_rows.ensures ∙ sym (by_rules lengths rules refl passed)
