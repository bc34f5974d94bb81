-- `unchecked::copy_rows` meets its promise: after i turns the first i rows have their blocks.
-- Assumes nothing.
use mathlib.Core.Path.{◌≡◌, refl, ap}
use Prim.Native.Nat.{ℕ, ◌+◌, ◌*◌, ◌≤◌}
use native.Mathlib.Omega.{arith}
use lib.ListN.{length, get_or, length-replicate}
use lib.Ieee.{binary64}
use Rattle.patterns.specs.Pattern.{rows_of, row_of}
use Rattle.copy_check.proofs.LookLaws.{both_ends}
use Rattle.copy_rows.proofs.AllLaws.{copies, placed_at, places, part_length, rows_none, rows_more, rows_kept, rows_all}
use Rattle.copy_rows.proofs.unchecked.copy_rows.Goals as goal

pub overflow_sub-i-end : goal.overflow_sub-i-end
overflow_sub-i-end g c = let fit = c.requires in omega (arith, fit.patterns.some, fit.patterns.same)

pub loop-i-init : goal.loop-i-init
loop-i-init g c =
    let a = c.args in
    (refl, length-replicate {A = ℕ} 4096 0, rows_none binary64 g.S.Size.DIM a.starts.now a.entries.now a.a_values.now a.offsets.now a.columns.now c.requires.patterns.valid_factor _)

pub bounds-starts-i : goal.bounds-starts-i
bounds-starts-i g c = omega (arith, c.requires.patterns.same)

pub overflow_cast-first : goal.overflow_cast-first
overflow_cast-first g c = record { fits = omega (arith, c.shared_slice_known-in-loop-i-1.given c.loop-i.i) }

pub bounds-starts-i-in-loop-i : goal.bounds-starts-i-in-loop-i
bounds-starts-i-in-loop-i g c = omega (arith, c.requires.patterns.same)

pub overflow_cast-past : goal.overflow_cast-past
overflow_cast-past g c = record { fits = omega (arith, c.shared_slice_known-in-loop-i-2-1.given (c.loop-i.i + 1)) }

pub overflow_cast-from : goal.overflow_cast-from
overflow_cast-from g c = record { fits = omega (arith, c.shared_slice_known-in-loop-i-3-1.given c.loop-i.i) }

pub overflow_cast-to : goal.overflow_cast-to
overflow_cast-to g c = record { fits = omega (arith, c.shared_slice_known-in-loop-i-4-1.given (c.loop-i.i + 1)) }

pub overflow_mul-begin : goal.overflow_mul-begin
overflow_mul-begin g c =
    -- and so do its values
    let filled : (let a = c.args in
    let i = c.loop-i.i in
    (g.S.Size.DIM * g.S.Size.DIM * get_or a.offsets.now i 0 ≤ g.S.Size.DIM * g.S.Size.DIM * get_or a.offsets.now (i + 1) 0)
    × (g.S.Size.DIM * g.S.Size.DIM * get_or a.offsets.now (i + 1) 0 ≤ length c.loop-i.values)) = let fit = c.requires in
    let e = places fit c.loop-i.i (omega (arith, fit.patterns.same)) in
    (e.0, omega (arith, e.1, c.loop-i.invariant.0)) in
    rw c.block_size-size.ensures.square (omega (arith, filled))

pub overflow_mul-end : goal.overflow_mul-end
overflow_mul-end g c =
    -- and so do its values
    let filled : (let a = c.args in
    let i = c.loop-i.i in
    (g.S.Size.DIM * g.S.Size.DIM * get_or a.offsets.now i 0 ≤ g.S.Size.DIM * g.S.Size.DIM * get_or a.offsets.now (i + 1) 0)
    × (g.S.Size.DIM * g.S.Size.DIM * get_or a.offsets.now (i + 1) 0 ≤ length c.loop-i.values)) = let fit = c.requires in
    let e = places fit c.loop-i.i (omega (arith, fit.patterns.same)) in
    (e.0, omega (arith, e.1, c.loop-i.invariant.0)) in
    rw c.block_size-size.ensures.square (omega (arith, filled))

pub offset_bounds-values-begin : goal.offset_bounds-values-begin
offset_bounds-values-begin g c =
    -- and so do its values
    let filled : (let a = c.args in
    let i = c.loop-i.i in
    (g.S.Size.DIM * g.S.Size.DIM * get_or a.offsets.now i 0 ≤ g.S.Size.DIM * g.S.Size.DIM * get_or a.offsets.now (i + 1) 0)
    × (g.S.Size.DIM * g.S.Size.DIM * get_or a.offsets.now (i + 1) 0 ≤ length c.loop-i.values)) = let fit = c.requires in
    let e = places fit c.loop-i.i (omega (arith, fit.patterns.same)) in
    (e.0, omega (arith, e.1, c.loop-i.invariant.0)) in
    rw c.block_size-size.ensures.square (omega (arith, filled))

pub slice_bounds-copy_row-count : goal.slice_bounds-copy_row-count
slice_bounds-copy_row-count g c =
    -- and so do its values
    let filled : (let a = c.args in
    let i = c.loop-i.i in
    (g.S.Size.DIM * g.S.Size.DIM * get_or a.offsets.now i 0 ≤ g.S.Size.DIM * g.S.Size.DIM * get_or a.offsets.now (i + 1) 0)
    × (g.S.Size.DIM * g.S.Size.DIM * get_or a.offsets.now (i + 1) 0 ≤ length c.loop-i.values)) = let fit = c.requires in
    let e = places fit c.loop-i.i (omega (arith, fit.patterns.same)) in
    (e.0, omega (arith, e.1, c.loop-i.invariant.0)) in
    rw c.block_size-size.ensures.square (omega (arith, filled))

pub slice_bounds-copy_row-start : goal.slice_bounds-copy_row-start
slice_bounds-copy_row-start g c =
    -- and so do its values
    let filled : (let a = c.args in
    let i = c.loop-i.i in
    (g.S.Size.DIM * g.S.Size.DIM * get_or a.offsets.now i 0 ≤ g.S.Size.DIM * g.S.Size.DIM * get_or a.offsets.now (i + 1) 0)
    × (g.S.Size.DIM * g.S.Size.DIM * get_or a.offsets.now (i + 1) 0 ≤ length c.loop-i.values)) = let fit = c.requires in
    let e = places fit c.loop-i.i (omega (arith, fit.patterns.same)) in
    (e.0, omega (arith, e.1, c.loop-i.invariant.0)) in
    rw c.block_size-size.ensures.square (omega (arith, filled))

pub slice_bounds-copy_row-end : goal.slice_bounds-copy_row-end
slice_bounds-copy_row-end g c =
    -- and so do its values
    let filled : (let a = c.args in
    let i = c.loop-i.i in
    (g.S.Size.DIM * g.S.Size.DIM * get_or a.offsets.now i 0 ≤ g.S.Size.DIM * g.S.Size.DIM * get_or a.offsets.now (i + 1) 0)
    × (g.S.Size.DIM * g.S.Size.DIM * get_or a.offsets.now (i + 1) 0 ≤ length c.loop-i.values)) = let fit = c.requires in
    let e = places fit c.loop-i.i (omega (arith, fit.patterns.same)) in
    (e.0, omega (arith, e.1, c.loop-i.invariant.0)) in
    rw c.block_size-size.ensures.square (omega (arith, filled))

pub offset_bounds-columns-from : goal.offset_bounds-columns-from
offset_bounds-columns-from g c =
    -- the parts of row i lie within their lists
    let ends : (let a = c.args in
    let i = c.loop-i.i in
    (get_or a.starts.now i 0 ≤ get_or a.starts.now (i + 1) 0) × (get_or a.starts.now (i + 1) 0 ≤ length a.entries.now)
    × (get_or a.offsets.now i 0 ≤ get_or a.offsets.now (i + 1) 0) × (get_or a.offsets.now (i + 1) 0 ≤ length a.columns.now)) = both_ends c.requires.patterns c.loop-i.i (omega (arith, c.requires.patterns.same)) in
    omega (arith, ends)

pub slice_bounds-copy_row-count-in-loop-i : goal.slice_bounds-copy_row-count-in-loop-i
slice_bounds-copy_row-count-in-loop-i g c =
    -- the parts of row i lie within their lists
    let ends : (let a = c.args in
    let i = c.loop-i.i in
    (get_or a.starts.now i 0 ≤ get_or a.starts.now (i + 1) 0) × (get_or a.starts.now (i + 1) 0 ≤ length a.entries.now)
    × (get_or a.offsets.now i 0 ≤ get_or a.offsets.now (i + 1) 0) × (get_or a.offsets.now (i + 1) 0 ≤ length a.columns.now)) = both_ends c.requires.patterns c.loop-i.i (omega (arith, c.requires.patterns.same)) in
    omega (arith, ends)

pub slice_bounds-copy_row-start-in-loop-i : goal.slice_bounds-copy_row-start-in-loop-i
slice_bounds-copy_row-start-in-loop-i g c =
    -- the parts of row i lie within their lists
    let ends : (let a = c.args in
    let i = c.loop-i.i in
    (get_or a.starts.now i 0 ≤ get_or a.starts.now (i + 1) 0) × (get_or a.starts.now (i + 1) 0 ≤ length a.entries.now)
    × (get_or a.offsets.now i 0 ≤ get_or a.offsets.now (i + 1) 0) × (get_or a.offsets.now (i + 1) 0 ≤ length a.columns.now)) = both_ends c.requires.patterns c.loop-i.i (omega (arith, c.requires.patterns.same)) in
    omega (arith, ends)

pub slice_bounds-copy_row-end-in-loop-i : goal.slice_bounds-copy_row-end-in-loop-i
slice_bounds-copy_row-end-in-loop-i g c =
    -- the parts of row i lie within their lists
    let ends : (let a = c.args in
    let i = c.loop-i.i in
    (get_or a.starts.now i 0 ≤ get_or a.starts.now (i + 1) 0) × (get_or a.starts.now (i + 1) 0 ≤ length a.entries.now)
    × (get_or a.offsets.now i 0 ≤ get_or a.offsets.now (i + 1) 0) × (get_or a.offsets.now (i + 1) 0 ≤ length a.columns.now)) = both_ends c.requires.patterns c.loop-i.i (omega (arith, c.requires.patterns.same)) in
    omega (arith, ends)

pub offset_bounds-entries-first : goal.offset_bounds-entries-first
offset_bounds-entries-first g c =
    -- the parts of row i lie within their lists
    let ends : (let a = c.args in
    let i = c.loop-i.i in
    (get_or a.starts.now i 0 ≤ get_or a.starts.now (i + 1) 0) × (get_or a.starts.now (i + 1) 0 ≤ length a.entries.now)
    × (get_or a.offsets.now i 0 ≤ get_or a.offsets.now (i + 1) 0) × (get_or a.offsets.now (i + 1) 0 ≤ length a.columns.now)) = both_ends c.requires.patterns c.loop-i.i (omega (arith, c.requires.patterns.same)) in
    omega (arith, ends)

pub slice_bounds-copy_row-count-in-loop-i-2 : goal.slice_bounds-copy_row-count-in-loop-i-2
slice_bounds-copy_row-count-in-loop-i-2 g c =
    -- the parts of row i lie within their lists
    let ends : (let a = c.args in
    let i = c.loop-i.i in
    (get_or a.starts.now i 0 ≤ get_or a.starts.now (i + 1) 0) × (get_or a.starts.now (i + 1) 0 ≤ length a.entries.now)
    × (get_or a.offsets.now i 0 ≤ get_or a.offsets.now (i + 1) 0) × (get_or a.offsets.now (i + 1) 0 ≤ length a.columns.now)) = both_ends c.requires.patterns c.loop-i.i (omega (arith, c.requires.patterns.same)) in
    omega (arith, ends)

pub slice_bounds-copy_row-start-in-loop-i-2 : goal.slice_bounds-copy_row-start-in-loop-i-2
slice_bounds-copy_row-start-in-loop-i-2 g c =
    -- the parts of row i lie within their lists
    let ends : (let a = c.args in
    let i = c.loop-i.i in
    (get_or a.starts.now i 0 ≤ get_or a.starts.now (i + 1) 0) × (get_or a.starts.now (i + 1) 0 ≤ length a.entries.now)
    × (get_or a.offsets.now i 0 ≤ get_or a.offsets.now (i + 1) 0) × (get_or a.offsets.now (i + 1) 0 ≤ length a.columns.now)) = both_ends c.requires.patterns c.loop-i.i (omega (arith, c.requires.patterns.same)) in
    omega (arith, ends)

pub slice_bounds-copy_row-end-in-loop-i-2 : goal.slice_bounds-copy_row-end-in-loop-i-2
slice_bounds-copy_row-end-in-loop-i-2 g c =
    -- the parts of row i lie within their lists
    let ends : (let a = c.args in
    let i = c.loop-i.i in
    (get_or a.starts.now i 0 ≤ get_or a.starts.now (i + 1) 0) × (get_or a.starts.now (i + 1) 0 ≤ length a.entries.now)
    × (get_or a.offsets.now i 0 ≤ get_or a.offsets.now (i + 1) 0) × (get_or a.offsets.now (i + 1) 0 ≤ length a.columns.now)) = both_ends c.requires.patterns c.loop-i.i (omega (arith, c.requires.patterns.same)) in
    omega (arith, ends)

pub copy_row-requires : goal.copy_row-requires
unfolding row_of
copy_row-requires g c =
    -- and so do its values
    let filled : (let a = c.args in
    let i = c.loop-i.i in
    (g.S.Size.DIM * g.S.Size.DIM * get_or a.offsets.now i 0 ≤ g.S.Size.DIM * g.S.Size.DIM * get_or a.offsets.now (i + 1) 0)
    × (g.S.Size.DIM * g.S.Size.DIM * get_or a.offsets.now (i + 1) 0 ≤ length c.loop-i.values)) = let fit = c.requires in
    let e = places fit c.loop-i.i (omega (arith, fit.patterns.same)) in
    (e.0, omega (arith, e.1, c.loop-i.invariant.0)) in
    let fit = c.requires in
    let e = filled in (
      c.loop-i.invariant.1,
      copies fit.patterns c.loop-i.i (omega (arith, fit.patterns.same)) g.S.Size.DIM _ fit.of_a _ (rw c.block_size-size.ensures.square (part_length _ _ c.loop-i.values e.0 e.1)),
      (placed_at fit c.loop-i.i (omega (arith, fit.patterns.same))).0,
      (placed_at fit c.loop-i.i (omega (arith, fit.patterns.same))).1,
    )

pub loop-i-preserved : goal.loop-i-preserved
unfolding row_of
loop-i-preserved g c =
    -- and so do its values
    let filled : (let a = c.args in
    let i = c.loop-i.i in
    (g.S.Size.DIM * g.S.Size.DIM * get_or a.offsets.now i 0 ≤ g.S.Size.DIM * g.S.Size.DIM * get_or a.offsets.now (i + 1) 0)
    × (g.S.Size.DIM * g.S.Size.DIM * get_or a.offsets.now (i + 1) 0 ≤ length c.loop-i.values)) = let fit = c.requires in
    let e = places fit c.loop-i.i (omega (arith, fit.patterns.same)) in
    (e.0, omega (arith, e.1, c.loop-i.invariant.0)) in
    let a = c.args in
    let e = filled in
    let more : c.loop-i.i + 1 ≤ rows_of a.offsets.now = omega (arith, c.loop-i-test.true) in
    let next = rows_more binary64 g.S.Size.DIM a.starts.now a.entries.now a.a_values.now a.offsets.now a.columns.now c.requires.patterns.valid_factor c.loop-i.i _ _ a.values.now c.loop-i.values _ _ (omega arith) (ap (λ (m : ℕ). m * get_or a.offsets.now c.loop-i.i 0) c.block_size-size.ensures.square) (ap (λ (m : ℕ). m * get_or a.offsets.now (c.loop-i.i + 1) 0) c.block_size-size.ensures.square)
    c.loop-i.invariant.2 c.copy_row.ensures.0 refl in (
      rows_kept binary64 g.S.Size.DIM a.starts.now a.entries.now a.a_values.now a.offsets.now a.columns.now c.requires.patterns.valid_factor (c.loop-i.i + 1) a.values.now _ more (omega (arith, e.1, c.loop-i.invariant.0)) next,
      c.copy_row.ensures.1,
      next,
    )

pub returns : goal.returns
returns g c =
    let a = c.args in
    let e : c.loop-i.i ≡ rows_of a.offsets.now = omega arith in
    rows_all binary64 g.S.Size.DIM a.starts.now a.entries.now a.a_values.now a.offsets.now a.columns.now c.requires.patterns.valid_factor a.values.now _ c.requires.of_values (rw e at c.loop-i.invariant.2)
