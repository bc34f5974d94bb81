-- `unchecked::mult_vec` meets its promise: after i turns y, with what is left of it scaled, is y scaled whole and the first i rows added.
-- Assumes nothing.
use mathlib.Core.Path.{◌≡◌, refl, sym, ap, ◌∙◌}
use mathlib.Core.List.{List}
use Prim.Native.Nat.{ℕ, ◌+◌, ◌*◌, ◌≤◌}
use native.Mathlib.Omega.{arith}
use lib.ListN.{length, get_or}
use lib.Ieee.{Float, binary64}
use borrow.Author.Rules.{rules}
use Rattle.base.proofs.Iterate.{iterate_none, iterate_more}
use Rattle.base.proofs.Sizes.{part_fits}
use Rattle.patterns.specs.Pattern.{rows_of}
use Rattle.matrix.specs.Product.{mult_row, mult_vec}
use Rattle.matrix.specs.Steps.{scaled_from}
use Rattle.matrix.proofs.ScaleLaws.{from_first, from_last}
use Rattle.matrix.proofs.FitLaws.{ends_of, turn_fits, turn}
use Rattle.matrix.proofs.unchecked.mult_vec.Goals as goal

pub overflow_sub-i-end : goal.overflow_sub-i-end
overflow_sub-i-end g c = omega (arith, c.requires.0.some)

pub loop-i-init : goal.loop-i-init
loop-i-init g c =
    let a = c.args in
    let none : g.S.Size.DIM * 0 ≡ 0 = omega arith in
    (refl, rw none (from_first binary64 a.beta a.y.now) ∙ sym (iterate_none _ 0 0 _ (search rules)))

pub overflow_cast-from : goal.overflow_cast-from
overflow_cast-from g c = record { fits = omega (arith, c.shared_slice_known-in-loop-i-1.given c.loop-i.i) }

pub overflow_cast-to : goal.overflow_cast-to
overflow_cast-to g c = record { fits = omega (arith, c.shared_slice_known-in-loop-i-2-1.given (c.loop-i.i + 1)) }

pub offset_bounds-columns-from : goal.offset_bounds-columns-from
offset_bounds-columns-from g c =
    -- the row's ends are in order and within the columns
    let ends : (let a = c.args in
    let i = c.loop-i.i in
    (get_or a.offsets.now i 0 ≤ get_or a.offsets.now (i + 1) 0) × (get_or a.offsets.now (i + 1) 0 ≤ length a.columns.now)) = ends_of c.requires.0 c.loop-i.i (search rules) _ _ refl refl in
    omega (arith, ends)

pub slice_bounds-mult_row-count : goal.slice_bounds-mult_row-count
slice_bounds-mult_row-count g c =
    -- the row's ends are in order and within the columns
    let ends : (let a = c.args in
    let i = c.loop-i.i in
    (get_or a.offsets.now i 0 ≤ get_or a.offsets.now (i + 1) 0) × (get_or a.offsets.now (i + 1) 0 ≤ length a.columns.now)) = ends_of c.requires.0 c.loop-i.i (search rules) _ _ refl refl in
    omega (arith, ends)

pub slice_bounds-mult_row-start : goal.slice_bounds-mult_row-start
slice_bounds-mult_row-start g c =
    -- the row's ends are in order and within the columns
    let ends : (let a = c.args in
    let i = c.loop-i.i in
    (get_or a.offsets.now i 0 ≤ get_or a.offsets.now (i + 1) 0) × (get_or a.offsets.now (i + 1) 0 ≤ length a.columns.now)) = ends_of c.requires.0 c.loop-i.i (search rules) _ _ refl refl in
    omega (arith, ends)

pub slice_bounds-mult_row-end : goal.slice_bounds-mult_row-end
slice_bounds-mult_row-end g c =
    -- the row's ends are in order and within the columns
    let ends : (let a = c.args in
    let i = c.loop-i.i in
    (get_or a.offsets.now i 0 ≤ get_or a.offsets.now (i + 1) 0) × (get_or a.offsets.now (i + 1) 0 ≤ length a.columns.now)) = ends_of c.requires.0 c.loop-i.i (search rules) _ _ refl refl in
    omega (arith, ends)

pub mult_row-requires : goal.mult_row-requires
mult_row-requires g c =
    turn_fits c.requires.0 c.loop-i.i (search rules) _ _ refl refl _ _ c.requires.1 (c.loop-i.invariant.0 ∙ c.requires.2)

pub loop-i-preserved : goal.loop-i-preserved
loop-i-preserved g c =
    let a = c.args in
    let f : ℕ → List Float → List Float = mult_row binary64 g.S.Size.DIM a.alpha a.offsets.now a.columns.now a.values.now a.diagonal.now a.x.now in (
      c.mult_row.auto.y ∙ c.loop-i.invariant.0,
      turn binary64 g.S.Size.DIM a.beta a.alpha a.offsets.now a.columns.now a.values.now a.diagonal.now a.x.now c.loop-i.i _ _ _ _ refl refl
          (part_fits g.S.Size.DIM c.loop-i.i (rows_of a.offsets.now) (length c.loop-i.y) (search rules) (omega (arith, c.loop-i.invariant.0, c.requires.2)))
          c.mult_row.ensures
          ∙ ap (f c.loop-i.i) c.loop-i.invariant.1 ∙ sym (iterate_more f 0 c.loop-i.i _ (search rules)),
    )

pub returns : goal.returns
unfolding mult_vec
returns g c =
    let a = c.args in
    let rows = rows_of a.offsets.now in
    let e : c.loop-i.i ≡ rows = omega arith in
    let all : scaled_from binary64 a.beta (g.S.Size.DIM * rows) c.loop-i.y ≡ c.loop-i.y =
    from_last binary64 a.beta (g.S.Size.DIM * rows) c.loop-i.y (omega (arith, c.loop-i.invariant.0, c.requires.2)) in
    sym all ∙ rw e at c.loop-i.invariant.1
