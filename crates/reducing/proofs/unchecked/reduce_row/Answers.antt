-- `unchecked::reduce_row` meets its promise: the row's part of the columns is marked and handed on.
-- Assumes nothing.
use Prim.Native.Nat.{◌+◌, ◌≤◌}
use native.Mathlib.Omega.{arith}
use lib.ListN.{length, get_or}
use Rattle.factors.specs.Factor.{reduce_row}
use Rattle.factor_check.proofs.FitLaws.{row_ends, split_ends, can_be_marked}
use Rattle.reducing.proofs.FitLaws.{handed, take_fits}
use Rattle.reducing.proofs.unchecked.reduce_row.Goals as goal

pub overflow_cast-from : goal.overflow_cast-from
overflow_cast-from g c = record { fits = omega (arith, c.shared_slice_known-4-1.given c.args.i) }

pub overflow_cast-to : goal.overflow_cast-to
overflow_cast-to g c = record { fits = omega (arith, c.shared_slice_known-5-1.given (c.args.i + 1)) }

pub offset_bounds-columns-from : goal.offset_bounds-columns-from
offset_bounds-columns-from g c =
    -- the row's ends are in order and within the columns
    let ends : (get_or c.args.offsets.now c.args.i 0 ≤ get_or c.args.offsets.now (c.args.i + 1) 0) × (get_or c.args.offsets.now (c.args.i + 1) 0 ≤ length c.args.columns.now) = row_ends c.requires.1 c.args.i c.requires.2 in
    omega (arith, ends)

pub slice_bounds-mark_row-count : goal.slice_bounds-mark_row-count
slice_bounds-mark_row-count g c =
    -- the row's ends are in order and within the columns
    let ends : (get_or c.args.offsets.now c.args.i 0 ≤ get_or c.args.offsets.now (c.args.i + 1) 0) × (get_or c.args.offsets.now (c.args.i + 1) 0 ≤ length c.args.columns.now) = row_ends c.requires.1 c.args.i c.requires.2 in
    omega (arith, ends)

pub slice_bounds-mark_row-start : goal.slice_bounds-mark_row-start
slice_bounds-mark_row-start g c =
    -- the row's ends are in order and within the columns
    let ends : (get_or c.args.offsets.now c.args.i 0 ≤ get_or c.args.offsets.now (c.args.i + 1) 0) × (get_or c.args.offsets.now (c.args.i + 1) 0 ≤ length c.args.columns.now) = row_ends c.requires.1 c.args.i c.requires.2 in
    omega (arith, ends)

pub slice_bounds-mark_row-end : goal.slice_bounds-mark_row-end
slice_bounds-mark_row-end g c =
    -- the row's ends are in order and within the columns
    let ends : (get_or c.args.offsets.now c.args.i 0 ≤ get_or c.args.offsets.now (c.args.i + 1) 0) × (get_or c.args.offsets.now (c.args.i + 1) 0 ≤ length c.args.columns.now) = row_ends c.requires.1 c.args.i c.requires.2 in
    omega (arith, ends)

pub mark_row-requires : goal.mark_row-requires
mark_row-requires g c =
    (c.requires.0, can_be_marked c.requires.1 c.args.i c.requires.2)

pub offset_bounds-columns-from-2 : goal.offset_bounds-columns-from-2
offset_bounds-columns-from-2 g c =
    -- the row's ends are in order and within the columns
    let ends : (get_or c.args.offsets.now c.args.i 0 ≤ get_or c.args.offsets.now (c.args.i + 1) 0) × (get_or c.args.offsets.now (c.args.i + 1) 0 ≤ length c.args.columns.now) = row_ends c.requires.1 c.args.i c.requires.2 in
    omega (arith, ends)

pub slice_bounds-take_lower-count : goal.slice_bounds-take_lower-count
slice_bounds-take_lower-count g c =
    -- the row's ends are in order and within the columns
    let ends : (get_or c.args.offsets.now c.args.i 0 ≤ get_or c.args.offsets.now (c.args.i + 1) 0) × (get_or c.args.offsets.now (c.args.i + 1) 0 ≤ length c.args.columns.now) = row_ends c.requires.1 c.args.i c.requires.2 in
    omega (arith, ends)

pub slice_bounds-take_lower-start : goal.slice_bounds-take_lower-start
slice_bounds-take_lower-start g c =
    -- the row's ends are in order and within the columns
    let ends : (get_or c.args.offsets.now c.args.i 0 ≤ get_or c.args.offsets.now (c.args.i + 1) 0) × (get_or c.args.offsets.now (c.args.i + 1) 0 ≤ length c.args.columns.now) = row_ends c.requires.1 c.args.i c.requires.2 in
    omega (arith, ends)

pub slice_bounds-take_lower-end : goal.slice_bounds-take_lower-end
slice_bounds-take_lower-end g c =
    -- the row's ends are in order and within the columns
    let ends : (get_or c.args.offsets.now c.args.i 0 ≤ get_or c.args.offsets.now (c.args.i + 1) 0) × (get_or c.args.offsets.now (c.args.i + 1) 0 ≤ length c.args.columns.now) = row_ends c.requires.1 c.args.i c.requires.2 in
    omega (arith, ends)

pub take_lower-requires : goal.take_lower-requires
take_lower-requires g c =
    -- the row's lower entries are within the columns
    let split = split_ends c.requires.1 c.args.i c.requires.2 in (
      c.requires.1,
      take_fits c.requires.1 c.args.i c.requires.2 _ c.mark_row.ensures,
      handed c.requires.1 c.args.i c.requires.2,
      omega (arith, split.0),
      omega (arith, split.1, split.2),
    )

pub returns : goal.returns
unfolding reduce_row
returns g c = (c.mark_row.ensures.long, c.take_lower.ensures)
