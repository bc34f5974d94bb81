-- `unchecked::forward` meets its promise: after i turns the first i rows are done, and the last of them is at hand.
-- Assumes nothing.
use mathlib.Core.Path.{◌≡◌, refl, sym, ap, ◌∙◌}
use mathlib.Core.List.{List}
use Prim.Native.Nat.{ℕ, ◌≤◌}
use native.Mathlib.Omega.{arith}
use lib.ListN.{length, get_or}
use lib.Ieee.{Float, binary64}
use borrow.Author.Rules.{rules}
use Rattle.base.proofs.Iterate.{iterate_none, iterate_more}
use Rattle.patterns.specs.Pattern.{rows_of}
use Rattle.factors.specs.Factor.{FactorPattern, FactorValues}
use Rattle.factors.specs.Solve.{forward_row}
use Rattle.factor_check.proofs.FitLaws.{split_ends}
use Rattle.solving.specs.Steps.{forward_rows}
use Rattle.solving.proofs.StepLaws.{forward_is}
use Rattle.solving.proofs.FitLaws.{part_fit, none_at_hand}
use Rattle.solving.proofs.unchecked.forward.Goals as goal

pub overflow_sub-n : goal.overflow_sub-n
overflow_sub-n g c = omega (arith, c.requires.0.matrix.some)

pub loop-i-init : goal.loop-i-init
loop-i-init g c = (refl, none_at_hand g.S.Size.DIM (rows_of c.args.offsets.now) _ c.args.vec.now g.met.S.Size.sizes.least c.requires.1, sym (iterate_none _ 0 0 _ (search rules)))

pub overflow_cast-from : goal.overflow_cast-from
overflow_cast-from g c = record { fits = omega (arith, c.shared_slice_known-in-loop-i-1.given c.loop-i.i) }

pub bounds-splits-i : goal.bounds-splits-i
bounds-splits-i g c = omega (arith, c.requires.0.of_splits)

pub overflow_cast-to : goal.overflow_cast-to
overflow_cast-to g c = record { fits = omega (arith, c.shared_slice_known-in-loop-i-2-1.given c.loop-i.i) }

pub offset_bounds-columns-from : goal.offset_bounds-columns-from
offset_bounds-columns-from g c =
    -- the lower entries lie within the columns
    let ends : (let a = c.args in
    let i = c.loop-i.i in
    (get_or a.offsets.now i 0 ≤ get_or a.splits.now i 0) × (get_or a.splits.now i 0 ≤ length a.columns.now)) = let e = split_ends c.requires.0 c.loop-i.i (search rules) in (e.0, omega (arith, e)) in
    omega (arith, ends)

pub slice_bounds-forward_row-count : goal.slice_bounds-forward_row-count
slice_bounds-forward_row-count g c =
    -- the lower entries lie within the columns
    let ends : (let a = c.args in
    let i = c.loop-i.i in
    (get_or a.offsets.now i 0 ≤ get_or a.splits.now i 0) × (get_or a.splits.now i 0 ≤ length a.columns.now)) = let e = split_ends c.requires.0 c.loop-i.i (search rules) in (e.0, omega (arith, e)) in
    omega (arith, ends)

pub slice_bounds-forward_row-start : goal.slice_bounds-forward_row-start
slice_bounds-forward_row-start g c =
    -- the lower entries lie within the columns
    let ends : (let a = c.args in
    let i = c.loop-i.i in
    (get_or a.offsets.now i 0 ≤ get_or a.splits.now i 0) × (get_or a.splits.now i 0 ≤ length a.columns.now)) = let e = split_ends c.requires.0 c.loop-i.i (search rules) in (e.0, omega (arith, e)) in
    omega (arith, ends)

pub slice_bounds-forward_row-end : goal.slice_bounds-forward_row-end
slice_bounds-forward_row-end g c =
    -- the lower entries lie within the columns
    let ends : (let a = c.args in
    let i = c.loop-i.i in
    (get_or a.offsets.now i 0 ≤ get_or a.splits.now i 0) × (get_or a.splits.now i 0 ≤ length a.columns.now)) = let e = split_ends c.requires.0 c.loop-i.i (search rules) in (e.0, omega (arith, e)) in
    omega (arith, ends)

pub forward_row-known-requires : goal.forward_row-known-requires
forward_row-known-requires g c =
    -- the lower entries lie within the columns
    let ends : (let a = c.args in
    let i = c.loop-i.i in
    (get_or a.offsets.now i 0 ≤ get_or a.splits.now i 0) × (get_or a.splits.now i 0 ≤ length a.columns.now)) = let e = split_ends c.requires.0 c.loop-i.i (search rules) in (e.0, omega (arith, e)) in
    let e = ends in
    let p = c.requires in
    (rw c.loop-i.invariant.0 (part_fit p.0 p.1 c.loop-i.i (search rules) _ _ e.0 e.1), c.loop-i.invariant.1)

pub loop-i-preserved : goal.loop-i-preserved
loop-i-preserved g c =
    -- the lower entries lie within the columns
    let ends : (let a = c.args in
    let i = c.loop-i.i in
    (get_or a.offsets.now i 0 ≤ get_or a.splits.now i 0) × (get_or a.splits.now i 0 ≤ length a.columns.now)) = let e = split_ends c.requires.0 c.loop-i.i (search rules) in (e.0, omega (arith, e)) in
    let a = c.args in
    let e = ends in
    let row = c.forward_row-known in
    let t : FactorPattern = record { offsets = a.offsets.now; columns = a.columns.now; splits = a.splits.now } in
    let s : FactorValues = record { diagonal = a.diagonal.now; values = a.values.now } in
    let f : ℕ → List Float → List Float = forward_row binary64 g.S.Size.DIM t s in (
      row.auto.vec ∙ c.loop-i.invariant.0,
      λ _. row.ensures.1,
      row.ensures.0
          ∙ forward_is binary64 g.S.Size.DIM t s c.loop-i.i c.loop-i.vec _ _ e.0 e.1 refl refl
          ∙ ap (f c.loop-i.i) c.loop-i.invariant.2 ∙ sym (iterate_more f 0 c.loop-i.i _ (search rules)),
    )

pub returns : goal.returns
unfolding forward_rows
returns g c =
    let e : c.loop-i.i ≡ rows_of c.args.offsets.now = omega arith in
    rw e at c.loop-i.invariant.2
