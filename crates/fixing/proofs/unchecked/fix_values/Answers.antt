-- `unchecked::fix_values` meets its promise: after i turns the entries of the first i rows are as their fixed values say.
-- Assumes nothing.
use mathlib.Core.Path.{◌≡◌, refl, sym, ap, ◌∙◌}
use mathlib.Core.List.{List}
use Prim.Native.Nat.{ℕ, ◌+◌, ◌≤◌}
use native.Mathlib.Omega.{arith}
use lib.ListN.{length, get_or}
use lib.Ieee.{Float, binary64}
use borrow.Author.Rules.{rules}
use Rattle.base.proofs.Iterate.{iterate_none, iterate_more}
use Rattle.patterns.specs.Pattern.{rows_of}
use Rattle.matrix.proofs.FitLaws.{ends_of}
use Rattle.fixing.specs.Fixing.{fix_row, fix_values}
use Rattle.fixing.proofs.FixingLaws.{joined_row}
use Rattle.fixing.proofs.FitLaws.{row_fits}
use Rattle.fixing.proofs.unchecked.fix_values.Goals as goal

pub overflow_sub-i-end : goal.overflow_sub-i-end
overflow_sub-i-end g c = omega (arith, c.requires.0.some)

pub loop-i-init : goal.loop-i-init
loop-i-init g c = (refl, sym (iterate_none _ 0 0 _ (search rules)))

pub overflow_cast-from : goal.overflow_cast-from
overflow_cast-from g c = record { fits = omega (arith, c.shared_slice_known-in-loop-i-1.given c.loop-i.i) }

pub overflow_cast-to : goal.overflow_cast-to
overflow_cast-to g c = record { fits = omega (arith, c.shared_slice_known-in-loop-i-2-1.given (c.loop-i.i + 1)) }

pub offset_bounds-columns-from : goal.offset_bounds-columns-from
offset_bounds-columns-from g c =
    -- the row's ends are in order and within the columns
    let ends : (let a = c.args in
    let i = c.loop-i.i in
    (get_or a.offsets.now i 0 ≤ get_or a.offsets.now (i + 1) 0) × (get_or a.offsets.now (i + 1) 0 ≤ length a.columns.now)) = ends_of c.requires.0 c.loop-i.i (search rules) _ _ refl refl in
    omega (arith, ends)

pub slice_bounds-fix_entries-count : goal.slice_bounds-fix_entries-count
slice_bounds-fix_entries-count g c =
    -- the row's ends are in order and within the columns
    let ends : (let a = c.args in
    let i = c.loop-i.i in
    (get_or a.offsets.now i 0 ≤ get_or a.offsets.now (i + 1) 0) × (get_or a.offsets.now (i + 1) 0 ≤ length a.columns.now)) = ends_of c.requires.0 c.loop-i.i (search rules) _ _ refl refl in
    omega (arith, ends)

pub slice_bounds-fix_entries-start : goal.slice_bounds-fix_entries-start
slice_bounds-fix_entries-start g c =
    -- the row's ends are in order and within the columns
    let ends : (let a = c.args in
    let i = c.loop-i.i in
    (get_or a.offsets.now i 0 ≤ get_or a.offsets.now (i + 1) 0) × (get_or a.offsets.now (i + 1) 0 ≤ length a.columns.now)) = ends_of c.requires.0 c.loop-i.i (search rules) _ _ refl refl in
    omega (arith, ends)

pub slice_bounds-fix_entries-end : goal.slice_bounds-fix_entries-end
slice_bounds-fix_entries-end g c =
    -- the row's ends are in order and within the columns
    let ends : (let a = c.args in
    let i = c.loop-i.i in
    (get_or a.offsets.now i 0 ≤ get_or a.offsets.now (i + 1) 0) × (get_or a.offsets.now (i + 1) 0 ≤ length a.columns.now)) = ends_of c.requires.0 c.loop-i.i (search rules) _ _ refl refl in
    omega (arith, ends)

pub fix_entries-requires : goal.fix_entries-requires
fix_entries-requires g c =
    (row_fits c.requires.0 c.loop-i.i (search rules) _ _ refl refl _ _ c.loop-i.invariant.0 c.requires.1)

pub loop-i-preserved : goal.loop-i-preserved
loop-i-preserved g c =
    let a = c.args in
    let f : ℕ → List Float → List Float = fix_row binary64 g.S.Size.DIM a.flags.now a.offsets.now a.columns.now in (
      c.fix_entries.auto.values ∙ c.loop-i.invariant.0,
      joined_row binary64 g.S.Size.DIM a.flags.now a.offsets.now a.columns.now c.loop-i.i _ _ _ _ refl refl c.fix_entries.ensures
          ∙ ap (f c.loop-i.i) c.loop-i.invariant.1 ∙ sym (iterate_more f 0 c.loop-i.i _ (search rules)),
    )

pub returns : goal.returns
unfolding fix_values
returns g c =
    let e : c.loop-i.i ≡ rows_of c.args.offsets.now = omega arith in
    rw e at c.loop-i.invariant.1
