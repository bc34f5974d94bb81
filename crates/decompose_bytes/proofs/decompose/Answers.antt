-- `decompose` meets its promise: refused by the lengths of its bytes, or worked in a room that holds them.
-- Assumes nothing.
use Rattle.std.proofs.Common.{rules}
use Rattle.answers.proofs.SameAnswer.{passed_up}
use mathlib.Core.Path.{◌≡◌, sym, ◌∙◌}
use mathlib.Core.List.{◌++◌}
use mathlib.Core.Bool.{false, ◌||◌}
use Prim.Native.Nat.{◌/◌}
use lib.ListN.{length}
use Rattle.answers.specs.Checks.{first_of}
use Rattle.pattern_bytes.specs.Checks.{byte_checks}
use Rattle.factor_bytes.specs.Checks.{misshapen_factor, factor_lengths}
use Rattle.factor_bytes.proofs.CheckLaws.{factor_in_full, factor_in_small}
use Rattle.decompose_bytes.proofs.EndLaws.{lengths_refuse, words_decide}
use Rattle.decompose_bytes.proofs.decompose.Goals as goal

pub returns-in_err-check_factor_bytes : goal.returns-in_err-check_factor_bytes
returns-in_err-check_factor_bytes c =
    let on = passed_up (search rules) c.in_err-check_factor_bytes.ensures in
    let a = c.args in
    lengths_refuse _ a.dim a.offsets.now a.columns.now a.splits.now a.diagonal.now a.values.now c.from_residual.result _ (a.diagonal.now, a.values.now) (a.diagonal.now, a.values.now)
    on.counts on.number

pub decompose_in_full_room-requires : goal.decompose_in_full_room-requires
decompose_in_full_room-requires c =
    -- past the test no length refuses
    let passed : (let a = c.args in
    first_of (byte_checks (length a.offsets.now) (length a.columns.now) (misshapen_factor a.dim (length a.offsets.now) (length a.columns.now) (length a.splits.now) (length a.diagonal.now) (length a.values.now) || false)
    ++ factor_lengths a.dim (length a.offsets.now / 4) (length a.columns.now / 4) (length a.splits.now / 4) (length a.diagonal.now / 8) (length a.values.now / 8)) ≡ 0) = sym c.in_ok-check_factor_bytes.ensures in
    factor_in_full _ _ _ _ _ _ false passed

pub returns-then-is_many : goal.returns-then-is_many
returns-then-is_many c =
    -- past the test no length refuses
    let passed : (let a = c.args in
    first_of (byte_checks (length a.offsets.now) (length a.columns.now) (misshapen_factor a.dim (length a.offsets.now) (length a.columns.now) (length a.splits.now) (length a.diagonal.now) (length a.values.now) || false)
    ++ factor_lengths a.dim (length a.offsets.now / 4) (length a.columns.now / 4) (length a.splits.now / 4) (length a.diagonal.now / 8) (length a.values.now / 8)) ≡ 0) = sym c.in_ok-check_factor_bytes.ensures in
    let a = c.args in
    words_decide _ a.dim a.offsets.now a.columns.now a.splits.now a.diagonal.now a.values.now c.decompose_in_full_room.result _ _ _ passed c.decompose_in_full_room.ensures

pub decompose_in_small_room-requires : goal.decompose_in_small_room-requires
decompose_in_small_room-requires c =
    -- past the test no length refuses
    let passed : (let a = c.args in
    first_of (byte_checks (length a.offsets.now) (length a.columns.now) (misshapen_factor a.dim (length a.offsets.now) (length a.columns.now) (length a.splits.now) (length a.diagonal.now) (length a.values.now) || false)
    ++ factor_lengths a.dim (length a.offsets.now / 4) (length a.columns.now / 4) (length a.splits.now / 4) (length a.diagonal.now / 8) (length a.values.now / 8)) ≡ 0) = sym c.in_ok-check_factor_bytes.ensures in
    factor_in_small _ _ _ _ _ _ false passed (sym c.is_many.ensures ∙ c.if-is_many.false)

pub returns : goal.returns
returns c =
    -- past the test no length refuses
    let passed : (let a = c.args in
    first_of (byte_checks (length a.offsets.now) (length a.columns.now) (misshapen_factor a.dim (length a.offsets.now) (length a.columns.now) (length a.splits.now) (length a.diagonal.now) (length a.values.now) || false)
    ++ factor_lengths a.dim (length a.offsets.now / 4) (length a.columns.now / 4) (length a.splits.now / 4) (length a.diagonal.now / 8) (length a.values.now / 8)) ≡ 0) = sym c.in_ok-check_factor_bytes.ensures in
    let a = c.args in
    words_decide _ a.dim a.offsets.now a.columns.now a.splits.now a.diagonal.now a.values.now c.decompose_in_small_room.result _ _ _ passed c.decompose_in_small_room.ensures
