-- `unchecked::check_copy` meets its promise: refused by a length, or as the patterns say.
-- Assumes nothing.
use Rattle.std.proofs.Common.{rules}
use Rattle.answers.proofs.SameAnswer.{passed_up}
use mathlib.Core.Path.{◌≡◌, refl, sym, ◌∙◌}
use mathlib.Core.List.{List}
use lib.ListN.{length}
use Rattle.answers.specs.Checks.{Check, first_of}
use Rattle.answers.proofs.EndLaws.{none_of_zero, refused_earlier, left_to_later}
use Rattle.copying.specs.Checks.{copy_lengths, copy_rules}
use Rattle.copying.proofs.CheckLaws.{lengths_pass}
use borrow.Author.Rules.{rules}
use Rattle.copying.proofs.unchecked.check_copy.Goals as goal

pub returns-in_err-check_lengths : goal.returns-in_err-check_lengths
returns-in_err-check_lengths g c =
    let on = passed_up (search rules) c.in_err-check_lengths.ensures in
    -- the two lists of checks
    let lengths : List Check = let a = c.args in
    copy_lengths g.S.Size.DIM (length a.starts.now) (length a.entries.now) a.a_diagonal a.a_values (length a.offsets.now) (length a.columns.now) (length a.splits.now) a.diagonal a.values in
    let rules : List Check = let a = c.args in
    copy_rules a.starts.now a.entries.now a.offsets.now a.columns.now a.splits.now in
    on.number ∙ sym (refused_earlier lengths rules (λ z. on.counts (on.number ∙ z)))

pub check_rules-requires : goal.check_rules-requires
check_rules-requires g c =
    -- the two lists of checks
    let lengths : List Check = let a = c.args in
    copy_lengths g.S.Size.DIM (length a.starts.now) (length a.entries.now) a.a_diagonal a.a_values (length a.offsets.now) (length a.columns.now) (length a.splits.now) a.diagonal a.values in
    -- past the test no length is wrong
    let passed : first_of lengths ≡ 0 = sym c.in_ok-check_lengths.ensures in
    let a = c.args in
    let shape =
    lengths_pass g.S.Size.DIM (length a.starts.now) (length a.entries.now) a.a_diagonal a.a_values (length a.offsets.now) (length a.columns.now) (length a.splits.now) a.diagonal a.values
    passed in
    (shape.sized, shape.sized_factor, shape.same, shape.of_splits)

pub returns : goal.returns
returns g c =
    -- the two lists of checks
    let lengths : List Check = let a = c.args in
    copy_lengths g.S.Size.DIM (length a.starts.now) (length a.entries.now) a.a_diagonal a.a_values (length a.offsets.now) (length a.columns.now) (length a.splits.now) a.diagonal a.values in
    let rules : List Check = let a = c.args in
    copy_rules a.starts.now a.entries.now a.offsets.now a.columns.now a.splits.now in
    -- past the test no length is wrong
    let passed : first_of lengths ≡ 0 = sym c.in_ok-check_lengths.ensures in
    c.check_rules.ensures ∙ sym (left_to_later lengths rules (none_of_zero lengths refl passed))
