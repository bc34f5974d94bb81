-- `set_fixed_bc` meets its promise: refused by the lengths of its bytes, or worked in a room that holds them.
-- Assumes nothing.
use Rattle.std.proofs.Common.{rules}
use Rattle.answers.proofs.SameAnswer.{passed_up}
use mathlib.Core.Path.{refl}
use mathlib.Core.Path.{◌≡◌, sym, ◌∙◌}
use mathlib.Core.List.{◌++◌}
use Prim.Native.Nat.{◌/◌}
use lib.ListN.{length}
use Rattle.answers.specs.Checks.{first_of}
use Rattle.matrix.specs.Checks.{vector_lengths}
use Rattle.pattern_bytes.specs.Checks.{byte_checks}
use Rattle.matrix_bytes.specs.Checks.{misshapen_flags}
use Rattle.matrix_bytes.proofs.CheckLaws.{flags_in_full, flags_in_small}
use Rattle.matrix_bytes.proofs.EndedLaws.{vectors_refuse, vectors_decide, swapped}
use Rattle.fixing_bytes.proofs.set_fixed_bc.Goals as goal

pub returns-in_err-check_vector_bytes : goal.returns-in_err-check_vector_bytes
returns-in_err-check_vector_bytes c =
    let on = passed_up {answer = c.from_residual.result} (search rules) c.in_err-check_vector_bytes.ensures in
    let a = c.args in
    vectors_refuse _ a.dim a.offsets.now a.columns.now _ _ _ _ _ (a.diagonal.now, a.values.now) on.counts _ _
    (rw c.is_broken_index-broken.ensures at on.number)

pub write_in_full_room-requires : goal.write_in_full_room-requires
write_in_full_room-requires c =
    -- past the test no length refuses
    let passed : (let a = c.args in
    first_of (byte_checks (length a.offsets.now) (length a.columns.now) (misshapen_flags a.dim (length a.offsets.now) (length a.columns.now) (length a.values.now) (length a.diagonal.now) (length a.flags.now))
    ++ vector_lengths a.dim (length a.offsets.now / 4) (length a.columns.now / 4) (length a.values.now / 8) (length a.diagonal.now / 8) (length a.flags.now / 4) (length a.flags.now / 4)) ≡ 0) = sym (rw c.is_broken_index-broken.ensures at c.in_ok-check_vector_bytes.ensures) in
    flags_in_full _ _ _ _ _ _ passed

pub returns-then-is_many : goal.returns-then-is_many
returns-then-is_many c =
    -- past the test no length refuses
    let passed : (let a = c.args in
    first_of (byte_checks (length a.offsets.now) (length a.columns.now) (misshapen_flags a.dim (length a.offsets.now) (length a.columns.now) (length a.values.now) (length a.diagonal.now) (length a.flags.now))
    ++ vector_lengths a.dim (length a.offsets.now / 4) (length a.columns.now / 4) (length a.values.now / 8) (length a.diagonal.now / 8) (length a.flags.now / 4) (length a.flags.now / 4)) ≡ 0) = sym (rw c.is_broken_index-broken.ensures at c.in_ok-check_vector_bytes.ensures) in
    let a = c.args in
    swapped _ _ _ _ _ _ _ _ (vectors_decide _ a.dim a.offsets.now a.columns.now _ _ _ _ _ _ _ _ passed c.write_in_full_room.ensures)

pub write_in_small_room-requires : goal.write_in_small_room-requires
write_in_small_room-requires c =
    -- past the test no length refuses
    let passed : (let a = c.args in
    first_of (byte_checks (length a.offsets.now) (length a.columns.now) (misshapen_flags a.dim (length a.offsets.now) (length a.columns.now) (length a.values.now) (length a.diagonal.now) (length a.flags.now))
    ++ vector_lengths a.dim (length a.offsets.now / 4) (length a.columns.now / 4) (length a.values.now / 8) (length a.diagonal.now / 8) (length a.flags.now / 4) (length a.flags.now / 4)) ≡ 0) = sym (rw c.is_broken_index-broken.ensures at c.in_ok-check_vector_bytes.ensures) in
    flags_in_small _ _ _ _ _ _ passed (sym c.is_many.ensures ∙ c.if-is_many.false)

pub returns : goal.returns
returns c =
    -- past the test no length refuses
    let passed : (let a = c.args in
    first_of (byte_checks (length a.offsets.now) (length a.columns.now) (misshapen_flags a.dim (length a.offsets.now) (length a.columns.now) (length a.values.now) (length a.diagonal.now) (length a.flags.now))
    ++ vector_lengths a.dim (length a.offsets.now / 4) (length a.columns.now / 4) (length a.values.now / 8) (length a.diagonal.now / 8) (length a.flags.now / 4) (length a.flags.now / 4)) ≡ 0) = sym (rw c.is_broken_index-broken.ensures at c.in_ok-check_vector_bytes.ensures) in
    let a = c.args in
    swapped _ _ _ _ _ _ _ _ (vectors_decide _ a.dim a.offsets.now a.columns.now _ _ _ _ _ _ _ _ passed c.write_in_small_room.ensures)
