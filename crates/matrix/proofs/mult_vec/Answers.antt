-- `mult_vec` meets its promise: refused by its lengths, refused by its pattern, or done.
-- Assumes nothing.
use Rattle.std.specs.Prelude.{Ok}
use Rattle.std.proofs.Common.{rules}
use Rattle.answers.proofs.SameAnswer.{passed_up}
use mathlib.Core.Path.{◌≡◌, refl, sym, ◌∙◌}
use mathlib.Core.Bool.{true}
use lib.ListN.{length}
use Rattle.answers.specs.Checks.{first_of}
use Rattle.patterns.specs.Pattern.{valid_pattern}
use Rattle.matrix.specs.Checks.{vector_lengths}
use Rattle.lent.proofs.DimLaws.{dim_of}
use Rattle.matrix.proofs.CheckLaws.{offsets_least, sized, entries_are, diagonal_is, matrix_too, first_is, second_is}
use Rattle.matrix.proofs.PatternEnds.{by_lengths, by_pattern, at_last}
use Rattle.matrix.proofs.mult_vec.Goals as goal

pub returns-in_err-check_vectors : goal.returns-in_err-check_vectors
returns-in_err-check_vectors g c =
    let on = passed_up (search rules) c.in_err-check_vectors.ensures in
    let a = c.args in
    by_lengths (vector_lengths g.S.Size.DIM (length a.offsets.now) (length a.columns.now) (length a.values.now) (length a.diagonal.now) (length a.y.now) (length a.x.now)) (valid_pattern a.offsets.now a.columns.now) _ on.number _ _ on.counts

pub is_valid_pattern-requires : goal.is_valid_pattern-requires
is_valid_pattern-requires g c =
    -- past the first test no length is wrong
    let passed : (let a = c.args in first_of (vector_lengths g.S.Size.DIM (length a.offsets.now) (length a.columns.now) (length a.values.now) (length a.diagonal.now) (length a.y.now) (length a.x.now)) ≡ 0) = sym c.in_ok-check_vectors.ensures in
    let a = c.args in
    sized g.S.Size.DIM (length a.offsets.now) (length a.columns.now) (length a.values.now) (length a.diagonal.now)
    (matrix_too g.S.Size.DIM (length a.offsets.now) (length a.columns.now) (length a.values.now) (length a.diagonal.now) (length a.y.now) (length a.x.now) passed)

pub returns-then-not-is_valid_pattern : goal.returns-then-not-is_valid_pattern
returns-then-not-is_valid_pattern g c =
    let a = c.args in
    by_pattern (vector_lengths g.S.Size.DIM (length a.offsets.now) (length a.columns.now) (length a.values.now) (length a.diagonal.now) (length a.y.now) (length a.x.now)) (valid_pattern a.offsets.now a.columns.now) (Ok tt) c.in_ok-check_vectors.ensures refl refl _ _
    (sym c.is_valid_pattern.ensures ∙ c.if-not-is_valid_pattern.true)

pub mult_vec-requires : goal.mult_vec-requires
mult_vec-requires g c =
    -- past the first test no length is wrong
    let passed : (let a = c.args in first_of (vector_lengths g.S.Size.DIM (length a.offsets.now) (length a.columns.now) (length a.values.now) (length a.diagonal.now) (length a.y.now) (length a.x.now)) ≡ 0) = sym c.in_ok-check_vectors.ensures in
    -- past the second the pattern is valid
    let valid : (let a = c.args in valid_pattern a.offsets.now a.columns.now ≡ true) = sym c.is_valid_pattern.ensures ∙ c.if-not-is_valid_pattern.false in
    let a = c.args in
    let p = passed in
    let o = length a.offsets.now in
    let e = length a.columns.now in
    let v = length a.values.now in
    let d = length a.diagonal.now in
    let m = matrix_too g.S.Size.DIM o e v d (length a.y.now) (length a.x.now) p in (
      record {
        dim = dim_of g.met.S.Size.sizes;
        some = offsets_least g.S.Size.DIM o e (dim_of g.met.S.Size.sizes) (sized g.S.Size.DIM o e v d m);
        pattern = valid;
        of_values = entries_are g.S.Size.DIM o e v d m;
        of_diagonal = diagonal_is g.S.Size.DIM o e v d m;
      },
      second_is g.S.Size.DIM o e v d (length a.y.now) (length a.x.now) p,
      first_is g.S.Size.DIM o e v d (length a.y.now) (length a.x.now) p,
    )

pub returns : goal.returns
returns g c =
    -- past the second the pattern is valid
    let valid : (let a = c.args in valid_pattern a.offsets.now a.columns.now ≡ true) = sym c.is_valid_pattern.ensures ∙ c.if-not-is_valid_pattern.false in
    let a = c.args in
    at_last (vector_lengths g.S.Size.DIM (length a.offsets.now) (length a.columns.now) (length a.values.now) (length a.diagonal.now) (length a.y.now) (length a.x.now)) (valid_pattern a.offsets.now a.columns.now) (Ok tt) c.in_ok-check_vectors.ensures refl refl _ _ _
    valid c.mult_vec.ensures
