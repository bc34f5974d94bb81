-- `solve_preconditioning_vec` meets its promise: refused by the lengths of its bytes, or worked in a room that holds them.
-- Assumes nothing.
use Rattle.std.proofs.Common.{rules}
use Rattle.answers.proofs.SameAnswer.{passed_up}
use mathlib.Core.Path.{◌≡◌, sym, ◌∙◌}
use mathlib.Core.List.{◌++◌}
use Prim.Native.Nat.{◌/◌}
use lib.ListN.{length}
use Rattle.answers.specs.Checks.{first_of}
use Rattle.precondition.specs.Checks.{solve_lengths}
use Rattle.pattern_bytes.specs.Checks.{byte_checks}
use Rattle.solve_bytes.specs.Checks.{misshapen_solve}
use Rattle.solve_bytes.proofs.CheckLaws.{solve_in_full, solve_in_small, solve_refuses, solve_decides}
use Rattle.solve_bytes.proofs.solve_preconditioning_vec.Goals as goal

pub returns-in_err-check_solve_bytes : goal.returns-in_err-check_solve_bytes
returns-in_err-check_solve_bytes c =
    let on = passed_up (search rules) c.in_err-check_solve_bytes.ensures in
    let a = c.args in
    solve_refuses _ a.dim a.offsets.now a.columns.now a.splits.now _ _ _ _ _ a.vec.now a.vec.now on.counts on.number

pub solve_in_full_room-requires : goal.solve_in_full_room-requires
solve_in_full_room-requires c =
    -- past the test no length refuses
    let passed : (let a = c.args in
    first_of (byte_checks (length a.offsets.now) (length a.columns.now) (misshapen_solve a.dim (length a.offsets.now) (length a.columns.now) (length a.splits.now) (length a.diagonal.now) (length a.values.now) (length a.vec.now))
    ++ solve_lengths a.dim (length a.offsets.now / 4) (length a.columns.now / 4) (length a.splits.now / 4) (length a.diagonal.now / 8) (length a.values.now / 8) (length a.vec.now / 8)) ≡ 0) = sym c.in_ok-check_solve_bytes.ensures in
    solve_in_full _ _ _ _ _ _ _ passed

pub returns-then-is_many : goal.returns-then-is_many
returns-then-is_many c =
    -- past the test no length refuses
    let passed : (let a = c.args in
    first_of (byte_checks (length a.offsets.now) (length a.columns.now) (misshapen_solve a.dim (length a.offsets.now) (length a.columns.now) (length a.splits.now) (length a.diagonal.now) (length a.values.now) (length a.vec.now))
    ++ solve_lengths a.dim (length a.offsets.now / 4) (length a.columns.now / 4) (length a.splits.now / 4) (length a.diagonal.now / 8) (length a.values.now / 8) (length a.vec.now / 8)) ≡ 0) = sym c.in_ok-check_solve_bytes.ensures in
    let a = c.args in
    solve_decides _ a.dim a.offsets.now a.columns.now a.splits.now _ _ _ _ _ _ _ passed c.solve_in_full_room.ensures

pub solve_in_small_room-requires : goal.solve_in_small_room-requires
solve_in_small_room-requires c =
    -- past the test no length refuses
    let passed : (let a = c.args in
    first_of (byte_checks (length a.offsets.now) (length a.columns.now) (misshapen_solve a.dim (length a.offsets.now) (length a.columns.now) (length a.splits.now) (length a.diagonal.now) (length a.values.now) (length a.vec.now))
    ++ solve_lengths a.dim (length a.offsets.now / 4) (length a.columns.now / 4) (length a.splits.now / 4) (length a.diagonal.now / 8) (length a.values.now / 8) (length a.vec.now / 8)) ≡ 0) = sym c.in_ok-check_solve_bytes.ensures in
    solve_in_small _ _ _ _ _ _ _ passed (sym c.is_many.ensures ∙ c.if-is_many.false)

pub returns : goal.returns
returns c =
    -- past the test no length refuses
    let passed : (let a = c.args in
    first_of (byte_checks (length a.offsets.now) (length a.columns.now) (misshapen_solve a.dim (length a.offsets.now) (length a.columns.now) (length a.splits.now) (length a.diagonal.now) (length a.values.now) (length a.vec.now))
    ++ solve_lengths a.dim (length a.offsets.now / 4) (length a.columns.now / 4) (length a.splits.now / 4) (length a.diagonal.now / 8) (length a.values.now / 8) (length a.vec.now / 8)) ≡ 0) = sym c.in_ok-check_solve_bytes.ensures in
    let a = c.args in
    solve_decides _ a.dim a.offsets.now a.columns.now a.splits.now _ _ _ _ _ _ _ passed c.solve_in_small_room.ensures
