-- `set_zero` meets its promise: refused by the lengths of its bytes, or worked in a room that holds them.
-- Assumes nothing.
use Rattle.std.proofs.Common.{rules}
use Rattle.answers.proofs.SameAnswer.{passed_up}
use mathlib.Core.Path.{◌≡◌, sym, ◌∙◌}
use mathlib.Core.List.{◌++◌}
use Prim.Native.Nat.{◌/◌}
use lib.ListN.{length}
use Rattle.answers.specs.Checks.{first_of}
use Rattle.matrix.specs.Checks.{matrix_lengths}
use Rattle.pattern_bytes.specs.Checks.{byte_checks}
use Rattle.matrix_bytes.specs.Checks.{misshapen}
use Rattle.matrix_bytes.proofs.CheckLaws.{matrix_in_full, matrix_in_small}
use Rattle.matrix_bytes.proofs.EndedLaws.{matrix_refuses, matrix_decides}
use Rattle.fixing_bytes.proofs.set_zero.Goals as goal

pub returns-in_err-check_matrix_bytes : goal.returns-in_err-check_matrix_bytes
returns-in_err-check_matrix_bytes c =
    let on = passed_up (search rules) c.in_err-check_matrix_bytes.ensures in
    let a = c.args in
    matrix_refuses _ a.dim a.offsets.now a.columns.now _ _ _ _ _ (a.values.now, a.diagonal.now) on.counts
    on.number

pub write_in_full_room-requires : goal.write_in_full_room-requires
write_in_full_room-requires c =
    -- past the test no length refuses
    let passed : (let a = c.args in
    first_of (byte_checks (length a.offsets.now) (length a.columns.now) (misshapen a.dim (length a.offsets.now) (length a.columns.now) (length a.values.now) (length a.diagonal.now))
    ++ matrix_lengths a.dim (length a.offsets.now / 4) (length a.columns.now / 4) (length a.values.now / 8) (length a.diagonal.now / 8)) ≡ 0) = sym c.in_ok-check_matrix_bytes.ensures in
    matrix_in_full _ _ _ _ _ passed

pub returns-then-is_many : goal.returns-then-is_many
returns-then-is_many c =
    -- past the test no length refuses
    let passed : (let a = c.args in
    first_of (byte_checks (length a.offsets.now) (length a.columns.now) (misshapen a.dim (length a.offsets.now) (length a.columns.now) (length a.values.now) (length a.diagonal.now))
    ++ matrix_lengths a.dim (length a.offsets.now / 4) (length a.columns.now / 4) (length a.values.now / 8) (length a.diagonal.now / 8)) ≡ 0) = sym c.in_ok-check_matrix_bytes.ensures in
    let a = c.args in
    matrix_decides _ a.dim a.offsets.now a.columns.now _ _ _ _ _ _ passed c.write_in_full_room.ensures

pub write_in_small_room-requires : goal.write_in_small_room-requires
write_in_small_room-requires c =
    -- past the test no length refuses
    let passed : (let a = c.args in
    first_of (byte_checks (length a.offsets.now) (length a.columns.now) (misshapen a.dim (length a.offsets.now) (length a.columns.now) (length a.values.now) (length a.diagonal.now))
    ++ matrix_lengths a.dim (length a.offsets.now / 4) (length a.columns.now / 4) (length a.values.now / 8) (length a.diagonal.now / 8)) ≡ 0) = sym c.in_ok-check_matrix_bytes.ensures in
    matrix_in_small _ _ _ _ _ passed (sym c.is_many.ensures ∙ c.if-is_many.false)

pub returns : goal.returns
returns c =
    -- past the test no length refuses
    let passed : (let a = c.args in
    first_of (byte_checks (length a.offsets.now) (length a.columns.now) (misshapen a.dim (length a.offsets.now) (length a.columns.now) (length a.values.now) (length a.diagonal.now))
    ++ matrix_lengths a.dim (length a.offsets.now / 4) (length a.columns.now / 4) (length a.values.now / 8) (length a.diagonal.now / 8)) ≡ 0) = sym c.in_ok-check_matrix_bytes.ensures in
    let a = c.args in
    matrix_decides _ a.dim a.offsets.now a.columns.now _ _ _ _ _ _ passed c.write_in_small_room.ensures
