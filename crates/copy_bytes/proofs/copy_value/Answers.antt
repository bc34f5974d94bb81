-- `copy_value` meets its promise: refused by the lengths of its bytes, or worked in a room that holds them.
-- Assumes nothing.
use Rattle.std.proofs.Common.{rules}
use Rattle.answers.proofs.SameAnswer.{passed_up}
use mathlib.Core.Path.{◌≡◌, sym, ◌∙◌}
use mathlib.Core.List.{◌++◌}
use Prim.Native.Nat.{◌/◌}
use lib.ListN.{length}
use Rattle.answers.specs.Checks.{first_of}
use Rattle.copying.specs.Checks.{copy_lengths}
use Rattle.copy_bytes.specs.Checks.{misshapen_copy, copy_byte_checks}
use Rattle.copy_bytes.proofs.CheckLaws.{copy_in_full, copy_in_small, copy_refuses, copy_decides}
use Rattle.copy_bytes.proofs.copy_value.Goals as goal

pub returns-in_err-check_copy_bytes : goal.returns-in_err-check_copy_bytes
returns-in_err-check_copy_bytes c =
    let on = passed_up (search rules) c.in_err-check_copy_bytes.ensures in
    let a = c.args in
    copy_refuses _ a.dim a.starts.now a.entries.now _ _ a.offsets.now a.columns.now a.splits.now _ _ _ _ (a.diagonal.now, a.values.now) (a.diagonal.now, a.values.now) on.counts on.number

pub copy_in_full_room-requires : goal.copy_in_full_room-requires
copy_in_full_room-requires c =
    -- past the test no length refuses
    let passed : (let a = c.args in
    first_of (copy_byte_checks (length a.starts.now) (length a.entries.now) (length a.offsets.now) (length a.columns.now) (misshapen_copy a.dim (length a.starts.now) (length a.entries.now) (length a.a_diagonal.now) (length a.a_values.now) (length a.offsets.now) (length a.columns.now) (length a.splits.now) (length a.diagonal.now) (length a.values.now))
    ++ copy_lengths a.dim (length a.starts.now / 4) (length a.entries.now / 4) (length a.a_diagonal.now / 8) (length a.a_values.now / 8) (length a.offsets.now / 4) (length a.columns.now / 4) (length a.splits.now / 4) (length a.diagonal.now / 8) (length a.values.now / 8)) ≡ 0) = sym c.in_ok-check_copy_bytes.ensures in
    copy_in_full _ _ _ _ _ _ _ _ _ _ passed

pub returns-then-is_many : goal.returns-then-is_many
returns-then-is_many c =
    -- past the test no length refuses
    let passed : (let a = c.args in
    first_of (copy_byte_checks (length a.starts.now) (length a.entries.now) (length a.offsets.now) (length a.columns.now) (misshapen_copy a.dim (length a.starts.now) (length a.entries.now) (length a.a_diagonal.now) (length a.a_values.now) (length a.offsets.now) (length a.columns.now) (length a.splits.now) (length a.diagonal.now) (length a.values.now))
    ++ copy_lengths a.dim (length a.starts.now / 4) (length a.entries.now / 4) (length a.a_diagonal.now / 8) (length a.a_values.now / 8) (length a.offsets.now / 4) (length a.columns.now / 4) (length a.splits.now / 4) (length a.diagonal.now / 8) (length a.values.now / 8)) ≡ 0) = sym c.in_ok-check_copy_bytes.ensures in
    let a = c.args in
    copy_decides _ a.dim a.starts.now a.entries.now _ _ a.offsets.now a.columns.now a.splits.now _ _ _ _ _ _ passed c.copy_in_full_room.ensures

pub copy_in_full_room-requires-then-is_many-2 : goal.copy_in_full_room-requires-then-is_many-2
copy_in_full_room-requires-then-is_many-2 c =
    -- past the test no length refuses
    let passed : (let a = c.args in
    first_of (copy_byte_checks (length a.starts.now) (length a.entries.now) (length a.offsets.now) (length a.columns.now) (misshapen_copy a.dim (length a.starts.now) (length a.entries.now) (length a.a_diagonal.now) (length a.a_values.now) (length a.offsets.now) (length a.columns.now) (length a.splits.now) (length a.diagonal.now) (length a.values.now))
    ++ copy_lengths a.dim (length a.starts.now / 4) (length a.entries.now / 4) (length a.a_diagonal.now / 8) (length a.a_values.now / 8) (length a.offsets.now / 4) (length a.columns.now / 4) (length a.splits.now / 4) (length a.diagonal.now / 8) (length a.values.now / 8)) ≡ 0) = sym c.in_ok-check_copy_bytes.ensures in
    copy_in_full _ _ _ _ _ _ _ _ _ _ passed

pub returns-then-is_many-2 : goal.returns-then-is_many-2
returns-then-is_many-2 c =
    -- past the test no length refuses
    let passed : (let a = c.args in
    first_of (copy_byte_checks (length a.starts.now) (length a.entries.now) (length a.offsets.now) (length a.columns.now) (misshapen_copy a.dim (length a.starts.now) (length a.entries.now) (length a.a_diagonal.now) (length a.a_values.now) (length a.offsets.now) (length a.columns.now) (length a.splits.now) (length a.diagonal.now) (length a.values.now))
    ++ copy_lengths a.dim (length a.starts.now / 4) (length a.entries.now / 4) (length a.a_diagonal.now / 8) (length a.a_values.now / 8) (length a.offsets.now / 4) (length a.columns.now / 4) (length a.splits.now / 4) (length a.diagonal.now / 8) (length a.values.now / 8)) ≡ 0) = sym c.in_ok-check_copy_bytes.ensures in
    let a = c.args in
    copy_decides _ a.dim a.starts.now a.entries.now _ _ a.offsets.now a.columns.now a.splits.now _ _ _ _ _ _ passed c.copy_in_full_room-then-is_many-2.ensures

pub copy_in_small_room-requires : goal.copy_in_small_room-requires
copy_in_small_room-requires c =
    -- past the test no length refuses
    let passed : (let a = c.args in
    first_of (copy_byte_checks (length a.starts.now) (length a.entries.now) (length a.offsets.now) (length a.columns.now) (misshapen_copy a.dim (length a.starts.now) (length a.entries.now) (length a.a_diagonal.now) (length a.a_values.now) (length a.offsets.now) (length a.columns.now) (length a.splits.now) (length a.diagonal.now) (length a.values.now))
    ++ copy_lengths a.dim (length a.starts.now / 4) (length a.entries.now / 4) (length a.a_diagonal.now / 8) (length a.a_values.now / 8) (length a.offsets.now / 4) (length a.columns.now / 4) (length a.splits.now / 4) (length a.diagonal.now / 8) (length a.values.now / 8)) ≡ 0) = sym c.in_ok-check_copy_bytes.ensures in
    copy_in_small _ _ _ _ _ _ _ _ _ _ passed (sym c.is_many.ensures ∙ c.if-is_many.false) (sym c.is_many-2.ensures ∙ c.if-is_many-2.false)

pub returns : goal.returns
returns c =
    -- past the test no length refuses
    let passed : (let a = c.args in
    first_of (copy_byte_checks (length a.starts.now) (length a.entries.now) (length a.offsets.now) (length a.columns.now) (misshapen_copy a.dim (length a.starts.now) (length a.entries.now) (length a.a_diagonal.now) (length a.a_values.now) (length a.offsets.now) (length a.columns.now) (length a.splits.now) (length a.diagonal.now) (length a.values.now))
    ++ copy_lengths a.dim (length a.starts.now / 4) (length a.entries.now / 4) (length a.a_diagonal.now / 8) (length a.a_values.now / 8) (length a.offsets.now / 4) (length a.columns.now / 4) (length a.splits.now / 4) (length a.diagonal.now / 8) (length a.values.now / 8)) ≡ 0) = sym c.in_ok-check_copy_bytes.ensures in
    let a = c.args in
    copy_decides _ a.dim a.starts.now a.entries.now _ _ a.offsets.now a.columns.now a.splits.now _ _ _ _ _ _ passed c.copy_in_small_room.ensures
