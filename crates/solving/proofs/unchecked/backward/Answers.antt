-- `unchecked::backward` meets its promise: with `left` rows left the others are done, and the last of them is at hand.
-- Assumes nothing.
use mathlib.Core.Path.{◌≡◌, refl, sym, ap, ◌∙◌}
use mathlib.Core.List.{List}
use Prim.Native.Nat.{ℕ, ◌+◌, ◌-◌, ◌≤◌}
use native.Mathlib.Omega.{arith}
use lib.ListN.{length, get_or}
use lib.Ieee.{Float, binary64}
use borrow.Author.Rules.{rules}
use Rattle.base.proofs.Iterate.{iterate_none}
use Rattle.patterns.specs.Pattern.{rows_of}
use Rattle.factors.specs.Factor.{FactorPattern, FactorValues}
use Rattle.factors.specs.Solve.{backward_row}
use Rattle.factor_check.proofs.FitLaws.{split_ends}
use Rattle.solving.specs.Steps.{backward_rows}
use Rattle.solving.proofs.StepLaws.{backward_is, falling_more}
use Rattle.solving.proofs.FitLaws.{part_row_fits, row_here, none_at_hand}
use Rattle.solving.proofs.unchecked.backward.Goals as goal

pub overflow_sub-left : goal.overflow_sub-left
overflow_sub-left g c = omega (arith, c.requires.0.matrix.some)

pub loop-left-init : goal.loop-left-init
loop-left-init g c = (refl, search rules, none_at_hand g.S.Size.DIM (rows_of c.args.offsets.now) _ c.args.vec.now g.met.S.Size.sizes.least c.requires.1, sym (iterate_none _ 0 _ _ (omega arith)))

pub bounds-splits-i : goal.bounds-splits-i
bounds-splits-i g c = omega (arith, c.requires.0.of_splits)

pub overflow_cast-from : goal.overflow_cast-from
overflow_cast-from g c = record { fits = omega (arith, c.shared_slice_known-in-loop-left-1.given (c.loop-left.left - 1)) }

pub overflow_cast-to : goal.overflow_cast-to
overflow_cast-to g c = record { fits = omega (arith, c.shared_slice_known-in-loop-left-2-1.given (c.loop-left.left - 1 + 1)) }

pub offset_bounds-columns-from : goal.offset_bounds-columns-from
offset_bounds-columns-from g c =
    -- the upper entries lie within the columns
    let ends : (let a = c.args in
    let i = c.loop-left.left - 1 in
    (get_or a.splits.now i 0 ≤ get_or a.offsets.now (i + 1) 0) × (get_or a.offsets.now (i + 1) 0 ≤ length a.columns.now)) = let e = split_ends c.requires.0 (c.loop-left.left - 1) (omega arith) in (e.1, e.2) in
    omega (arith, ends)

pub slice_bounds-backward_row-count : goal.slice_bounds-backward_row-count
slice_bounds-backward_row-count g c =
    -- the upper entries lie within the columns
    let ends : (let a = c.args in
    let i = c.loop-left.left - 1 in
    (get_or a.splits.now i 0 ≤ get_or a.offsets.now (i + 1) 0) × (get_or a.offsets.now (i + 1) 0 ≤ length a.columns.now)) = let e = split_ends c.requires.0 (c.loop-left.left - 1) (omega arith) in (e.1, e.2) in
    omega (arith, ends)

pub slice_bounds-backward_row-start : goal.slice_bounds-backward_row-start
slice_bounds-backward_row-start g c =
    -- the upper entries lie within the columns
    let ends : (let a = c.args in
    let i = c.loop-left.left - 1 in
    (get_or a.splits.now i 0 ≤ get_or a.offsets.now (i + 1) 0) × (get_or a.offsets.now (i + 1) 0 ≤ length a.columns.now)) = let e = split_ends c.requires.0 (c.loop-left.left - 1) (omega arith) in (e.1, e.2) in
    omega (arith, ends)

pub slice_bounds-backward_row-end : goal.slice_bounds-backward_row-end
slice_bounds-backward_row-end g c =
    -- the upper entries lie within the columns
    let ends : (let a = c.args in
    let i = c.loop-left.left - 1 in
    (get_or a.splits.now i 0 ≤ get_or a.offsets.now (i + 1) 0) × (get_or a.offsets.now (i + 1) 0 ≤ length a.columns.now)) = let e = split_ends c.requires.0 (c.loop-left.left - 1) (omega arith) in (e.1, e.2) in
    omega (arith, ends)

pub backward_row-known-requires : goal.backward_row-known-requires
backward_row-known-requires g c =
    -- the upper entries lie within the columns
    let ends : (let a = c.args in
    let i = c.loop-left.left - 1 in
    (get_or a.splits.now i 0 ≤ get_or a.offsets.now (i + 1) 0) × (get_or a.offsets.now (i + 1) 0 ≤ length a.columns.now)) = let e = split_ends c.requires.0 (c.loop-left.left - 1) (omega arith) in (e.1, e.2) in
    let e = ends in
    let p = c.requires in (
      rw c.loop-left.invariant.0 (part_row_fits p.0 p.1 _ _ e.0 e.1),
      rw c.loop-left.invariant.0 (row_here p.0 p.1 (c.loop-left.left - 1) (omega arith)),
      c.loop-left.invariant.2,
    )

pub loop-left-preserved : goal.loop-left-preserved
loop-left-preserved g c =
    -- the upper entries lie within the columns
    let ends : (let a = c.args in
    let i = c.loop-left.left - 1 in
    (get_or a.splits.now i 0 ≤ get_or a.offsets.now (i + 1) 0) × (get_or a.offsets.now (i + 1) 0 ≤ length a.columns.now)) = let e = split_ends c.requires.0 (c.loop-left.left - 1) (omega arith) in (e.1, e.2) in
    let a = c.args in
    let e = ends in
    let row = c.backward_row-known in
    let t : FactorPattern = record { offsets = a.offsets.now; columns = a.columns.now; splits = a.splits.now } in
    let s : FactorValues = record { diagonal = a.diagonal.now; values = a.values.now } in
    let f : ℕ → List Float → List Float = backward_row binary64 g.S.Size.DIM t s in (
      row.auto.vec ∙ c.loop-left.invariant.0,
      omega arith,
      λ _. row.ensures.1,
      row.ensures.0
          ∙ backward_is binary64 g.S.Size.DIM t s (c.loop-left.left - 1) c.loop-left.vec _ _ e.0 e.1 refl refl
          ∙ ap (f (c.loop-left.left - 1)) c.loop-left.invariant.3 ∙ sym (falling_more f (rows_of a.offsets.now) c.loop-left.left _ (omega arith) c.loop-left.invariant.1),
    )

pub returns : goal.returns
unfolding backward_rows
returns g c =
    let rows = rows_of c.args.offsets.now in
    let e : rows - c.loop-left.left ≡ rows = omega arith in
    rw e at c.loop-left.invariant.3
