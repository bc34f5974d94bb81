-- `set_zero` meets its promise: refused by its lengths, refused by its pattern, or done.
-- Assumes nothing.
use Rattle.std.specs.Prelude.{Ok}
use Rattle.std.proofs.Common.{rules}
use Rattle.answers.proofs.SameAnswer.{passed_up}
use mathlib.Core.Path.{refl, sym, ◌∙◌}
use lib.ListN.{length}
use Rattle.patterns.specs.Pattern.{valid_pattern}
use Rattle.matrix.specs.Checks.{matrix_lengths}
use Rattle.matrix.proofs.CheckLaws.{sized}
use Rattle.matrix.proofs.PatternEnds.{by_lengths, by_pattern, at_last, pair_of}
use Rattle.matrix.proofs.set_zero.Goals as goal

pub returns-in_err-check_matrix : goal.returns-in_err-check_matrix
returns-in_err-check_matrix g c =
    let on = passed_up (search rules) c.in_err-check_matrix.ensures in
    let a = c.args in
    by_lengths (matrix_lengths g.S.Size.DIM (length a.offsets.now) (length a.columns.now) (length a.values.now) (length a.diagonal.now)) (valid_pattern a.offsets.now a.columns.now) _ on.number _ _ on.counts

pub is_valid_pattern-requires : goal.is_valid_pattern-requires
is_valid_pattern-requires g c =
    let a = c.args in
    sized g.S.Size.DIM (length a.offsets.now) (length a.columns.now) (length a.values.now) (length a.diagonal.now)
    (sym c.in_ok-check_matrix.ensures)

pub returns-then-not-is_valid_pattern : goal.returns-then-not-is_valid_pattern
returns-then-not-is_valid_pattern g c =
    let a = c.args in
    by_pattern (matrix_lengths g.S.Size.DIM (length a.offsets.now) (length a.columns.now) (length a.values.now) (length a.diagonal.now)) (valid_pattern a.offsets.now a.columns.now) (Ok tt) c.in_ok-check_matrix.ensures refl refl _ _
    (sym c.is_valid_pattern.ensures ∙ c.if-not-is_valid_pattern.true)

pub returns : goal.returns
returns g c =
    let a = c.args in
    at_last (matrix_lengths g.S.Size.DIM (length a.offsets.now) (length a.columns.now) (length a.values.now) (length a.diagonal.now)) (valid_pattern a.offsets.now a.columns.now) (Ok tt) c.in_ok-check_matrix.ensures refl refl _ _ _
    (sym c.is_valid_pattern.ensures ∙ c.if-not-is_valid_pattern.false) (pair_of c.set_zero.ensures c.set_zero-2.ensures)
