-- `set_fixed_bc` meets its promise: refused by a length, refused by the pattern, and done.
-- Assumes nothing.
use Rattle.std.proofs.Common.{rules}
use Rattle.answers.proofs.SameAnswer.{passed_up}
use mathlib.Core.Path.{refl}
use mathlib.Core.Path.{◌≡◌, sym, ◌∙◌}
use mathlib.Core.Bool.{true}
use lib.ListN.{length}
use Rattle.answers.specs.Checks.{first_of}
use Rattle.patterns.specs.Pattern.{valid_pattern}
use Rattle.matrix.specs.Checks.{vector_lengths}
use Rattle.lent.proofs.DimLaws.{dim_of}
use Rattle.fixing.proofs.EndedLaws.{both_same, lengths_refuse, sized, pattern_refuses, done, all_fits}
use Rattle.fixing.proofs.set_fixed_bc.Goals as goal

pub returns-in_err-check_vectors : goal.returns-in_err-check_vectors
returns-in_err-check_vectors g c =
    let on = passed_up (search rules) c.in_err-check_vectors.ensures in
    let a = c.args in
    lengths_refuse g.S.Size.DIM a.offsets.now a.columns.now (length a.values.now) (length a.diagonal.now) (length a.flags.now) _ _ _
    on.number on.counts

pub is_valid_pattern-requires : goal.is_valid_pattern-requires
is_valid_pattern-requires g c =
    -- past the first test the lengths are right
    let measured : (let a = c.args in
    first_of (vector_lengths g.S.Size.DIM (length a.offsets.now) (length a.columns.now) (length a.values.now) (length a.diagonal.now) (length a.flags.now) (length a.flags.now)) ≡ 0) = sym c.in_ok-check_vectors.ensures in
    let a = c.args in
    sized g.S.Size.DIM a.offsets.now a.columns.now (length a.values.now) (length a.diagonal.now) (length a.flags.now) measured

pub returns-then-not-is_valid_pattern : goal.returns-then-not-is_valid_pattern
returns-then-not-is_valid_pattern g c =
    -- past the first test the lengths are right
    let measured : (let a = c.args in
    first_of (vector_lengths g.S.Size.DIM (length a.offsets.now) (length a.columns.now) (length a.values.now) (length a.diagonal.now) (length a.flags.now) (length a.flags.now)) ≡ 0) = sym c.in_ok-check_vectors.ensures in
    let a = c.args in
    pattern_refuses g.S.Size.DIM a.offsets.now a.columns.now (length a.values.now) (length a.diagonal.now) (length a.flags.now) measured _ _
    (sym c.is_valid_pattern.ensures ∙ c.if-not-is_valid_pattern.true)

pub set_fixed_bc-requires : goal.set_fixed_bc-requires
set_fixed_bc-requires g c =
    -- past the first test the lengths are right
    let measured : (let a = c.args in
    first_of (vector_lengths g.S.Size.DIM (length a.offsets.now) (length a.columns.now) (length a.values.now) (length a.diagonal.now) (length a.flags.now) (length a.flags.now)) ≡ 0) = sym c.in_ok-check_vectors.ensures in
    -- past the second the pattern is
    let valid : valid_pattern c.args.offsets.now c.args.columns.now ≡ true = sym c.is_valid_pattern.ensures ∙ c.if-not-is_valid_pattern.false in
    let a = c.args in
    all_fits g.S.Size.DIM a.offsets.now a.columns.now (length a.values.now) (length a.diagonal.now) (length a.flags.now) measured valid (dim_of g.met.S.Size.sizes)

pub returns : goal.returns
returns g c =
    -- past the first test the lengths are right
    let measured : (let a = c.args in
    first_of (vector_lengths g.S.Size.DIM (length a.offsets.now) (length a.columns.now) (length a.values.now) (length a.diagonal.now) (length a.flags.now) (length a.flags.now)) ≡ 0) = sym c.in_ok-check_vectors.ensures in
    -- past the second the pattern is
    let valid : valid_pattern c.args.offsets.now c.args.columns.now ≡ true = sym c.is_valid_pattern.ensures ∙ c.if-not-is_valid_pattern.false in
    let a = c.args in
    done g.S.Size.DIM a.offsets.now a.columns.now (length a.values.now) (length a.diagonal.now) (length a.flags.now) measured valid _ _ _ _
    refl (both_same c.set_fixed_bc.ensures.0 c.set_fixed_bc.ensures.1)
