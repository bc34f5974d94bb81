-- `mult_vec` meets its promise: refused by the lengths of its bytes, or worked in a room that holds them.
-- Assumes nothing.
use Rattle.std.proofs.Common.{rules}
use Rattle.answers.proofs.SameAnswer.{passed_up}
use mathlib.Core.Path.{refl}
use mathlib.Core.Path.{◌≡◌, sym, ◌∙◌}
use mathlib.Core.List.{◌++◌}
use Prim.Native.Nat.{◌/◌}
use lib.ListN.{length}
use Rattle.answers.specs.Checks.{first_of}
use Rattle.matrix.specs.Checks.{vector_lengths}
use Rattle.pattern_bytes.specs.Checks.{byte_checks}
use Rattle.matrix_bytes.specs.Checks.{misshapen_vectors}
use Rattle.matrix_bytes.proofs.CheckLaws.{vectors_in_full, vectors_in_small}
use Rattle.matrix_bytes.proofs.EndedLaws.{vectors_refuse, vectors_decide}
use Rattle.matrix_bytes.proofs.mult_vec.Goals as goal

pub returns-in_err-check_vector_bytes : goal.returns-in_err-check_vector_bytes
returns-in_err-check_vector_bytes c =
    let on = passed_up {answer = c.from_residual.result} (search rules) c.in_err-check_vector_bytes.ensures in
    let a = c.args in
    vectors_refuse _ a.dim a.offsets.now a.columns.now _ _ _ _ _ a.y.now on.counts _ _
    (rw c.is_broken_pair-broken.ensures at on.number)

pub mult_vec_in_full_room-requires : goal.mult_vec_in_full_room-requires
mult_vec_in_full_room-requires c =
    -- past the test no length refuses
    let passed : (let a = c.args in
    first_of (byte_checks (length a.offsets.now) (length a.columns.now) (misshapen_vectors a.dim (length a.offsets.now) (length a.columns.now) (length a.values.now) (length a.diagonal.now) (length a.y.now) (length a.x.now))
    ++ vector_lengths a.dim (length a.offsets.now / 4) (length a.columns.now / 4) (length a.values.now / 8) (length a.diagonal.now / 8) (length a.y.now / 8) (length a.x.now / 8)) ≡ 0) = sym (rw c.is_broken_pair-broken.ensures at c.in_ok-check_vector_bytes.ensures) in
    vectors_in_full _ _ _ _ _ _ _ passed

pub returns-then-is_many : goal.returns-then-is_many
returns-then-is_many c =
    -- past the test no length refuses
    let passed : (let a = c.args in
    first_of (byte_checks (length a.offsets.now) (length a.columns.now) (misshapen_vectors a.dim (length a.offsets.now) (length a.columns.now) (length a.values.now) (length a.diagonal.now) (length a.y.now) (length a.x.now))
    ++ vector_lengths a.dim (length a.offsets.now / 4) (length a.columns.now / 4) (length a.values.now / 8) (length a.diagonal.now / 8) (length a.y.now / 8) (length a.x.now / 8)) ≡ 0) = sym (rw c.is_broken_pair-broken.ensures at c.in_ok-check_vector_bytes.ensures) in
    let a = c.args in
    vectors_decide _ a.dim a.offsets.now a.columns.now _ _ _ _ _ _ _ _ passed c.mult_vec_in_full_room.ensures

pub mult_vec_in_small_room-requires : goal.mult_vec_in_small_room-requires
mult_vec_in_small_room-requires c =
    -- past the test no length refuses
    let passed : (let a = c.args in
    first_of (byte_checks (length a.offsets.now) (length a.columns.now) (misshapen_vectors a.dim (length a.offsets.now) (length a.columns.now) (length a.values.now) (length a.diagonal.now) (length a.y.now) (length a.x.now))
    ++ vector_lengths a.dim (length a.offsets.now / 4) (length a.columns.now / 4) (length a.values.now / 8) (length a.diagonal.now / 8) (length a.y.now / 8) (length a.x.now / 8)) ≡ 0) = sym (rw c.is_broken_pair-broken.ensures at c.in_ok-check_vector_bytes.ensures) in
    vectors_in_small _ _ _ _ _ _ _ passed (sym c.is_many.ensures ∙ c.if-is_many.false)

pub returns : goal.returns
returns c =
    -- past the test no length refuses
    let passed : (let a = c.args in
    first_of (byte_checks (length a.offsets.now) (length a.columns.now) (misshapen_vectors a.dim (length a.offsets.now) (length a.columns.now) (length a.values.now) (length a.diagonal.now) (length a.y.now) (length a.x.now))
    ++ vector_lengths a.dim (length a.offsets.now / 4) (length a.columns.now / 4) (length a.values.now / 8) (length a.diagonal.now / 8) (length a.y.now / 8) (length a.x.now / 8)) ≡ 0) = sym (rw c.is_broken_pair-broken.ensures at c.in_ok-check_vector_bytes.ensures) in
    let a = c.args in
    vectors_decide _ a.dim a.offsets.now a.columns.now _ _ _ _ _ _ _ _ passed c.mult_vec_in_small_room.ensures
