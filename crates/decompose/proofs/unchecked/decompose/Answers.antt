-- `unchecked::decompose` meets its promise: after i turns, what the rows from i on do to what is left is what all rows do.
-- Assumes nothing.
use mathlib.Core.Path.{◌≡◌, refl, sym, ◌∙◌}
use Prim.Native.Nat.{ℕ, ◌-◌, ◌*◌, ◌<◌}
use native.Mathlib.Omega.{arith}
use lib.ListN.{length, length-replicate}
use lib.Ieee.{binary64}
use borrow.Author.Rules.{rules}
use Rattle.answers.proofs.SameAnswer.{err_counts, ok_is_zero}
use Rattle.lent.specs.Steps.{Within}
use Rattle.patterns.specs.Pattern.{rows_of}
use Rattle.factors.specs.Factor.{decompose}
use Rattle.reducing.specs.Lent.{pattern_of}
use Rattle.factor_check.proofs.FitLaws.{diagonal_within, row_within, split_between}
use Rattle.decompose.specs.Steps.{multiply_row}
use Rattle.decompose.proofs.TurnLaws.{refused, accepted, turn_stops, turn_goes, turn_ends}
use Rattle.decompose.proofs.unchecked.decompose.Goals as goal

pub overflow_sub-n : goal.overflow_sub-n
overflow_sub-n g c = omega (arith, c.requires.matrix.some)

pub loop-i-init : goal.loop-i-init
unfolding decompose
loop-i-init g c =
    let rows = rows_of c.args.offsets.now in
    let e : rows - 0 ≡ rows = omega arith in
    (refl, refl, length-replicate {A = ℕ} 4096 0, rw e)

pub reduce_row-requires : goal.reduce_row-requires
reduce_row-requires g c = (c.loop-i.invariant.2, rw (c.loop-i.invariant.0, c.loop-i.invariant.1) c.requires, search rules)

pub invert_pivot-requires : goal.invert_pivot-requires
invert_pivot-requires g c =
    -- row i has its block of the diagonal, as the row's reduction leaves it
    let room : Within (g.S.Size.DIM * g.S.Size.DIM) c.loop-i.i (length c.reduce_row.new.diagonal) = rw (c.reduce_row.auto.diagonal ∙ c.loop-i.invariant.0) (diagonal_within c.requires c.loop-i.i (search rules)) in
    room

pub returns-then-is_err : goal.returns-then-is_err
returns-then-is_err g c =
    -- row i has its block of the diagonal, as the row's reduction leaves it
    let room : Within (g.S.Size.DIM * g.S.Size.DIM) c.loop-i.i (length c.reduce_row.new.diagonal) = rw (c.reduce_row.auto.diagonal ∙ c.loop-i.invariant.0) (diagonal_within c.requires c.loop-i.i (search rules)) in
    let a = c.args in
    let l = c.loop-i in
    turn_stops binary64 g.S.Size.DIM (pattern_of a.offsets.now a.columns.now a.splits.now) (rows_of a.offsets.now) l.i (search rules) _ _ _ c.reduce_row.ensures.1 _ c.invert_pivot.ensures.1
    (refused _ _ c.invert_pivot.ensures.0.number (err_counts _ (sym c.is_err.ensures.value ∙ c.if-is_err.true))) room ∙ sym l.invariant.3

pub multiply_row-requires : goal.multiply_row-requires
multiply_row-requires g c =
    let l = c.loop-i in
    let d = c.invert_pivot.auto.diagonal ∙ c.reduce_row.auto.diagonal ∙ l.invariant.0 in
    let v = c.reduce_row.auto.values ∙ l.invariant.1 in
    let i = l.i in
    let inside : i < rows_of c.args.offsets.now = search rules in
    (rw d (diagonal_within c.requires i inside), (split_between c.requires i inside).1, rw v (row_within c.requires i inside))

pub loop-i-preserved : goal.loop-i-preserved
unfolding multiply_row
loop-i-preserved g c =
    let a = c.args in
    let l = c.loop-i in (
      c.invert_pivot.auto.diagonal ∙ c.reduce_row.auto.diagonal ∙ l.invariant.0,
      c.multiply_row.auto.values ∙ c.reduce_row.auto.values ∙ l.invariant.1,
      c.reduce_row.ensures.0,
      l.invariant.3 ∙ turn_goes binary64 g.S.Size.DIM (pattern_of a.offsets.now a.columns.now a.splits.now) (rows_of a.offsets.now) l.i (search rules) _ _ _ c.reduce_row.ensures.1 _ c.invert_pivot.ensures.1
          (accepted _ _ c.invert_pivot.ensures.0.number (ok_is_zero _ (sym c.is_err.ensures.value ∙ c.if-is_err.false))) _ c.multiply_row.ensures,
    )

pub returns : goal.returns
returns g c =
    let a = c.args in
    turn_ends binary64 g.S.Size.DIM (pattern_of a.offsets.now a.columns.now a.splits.now) (rows_of a.offsets.now) c.loop-i.i _ (search rules) ∙ sym c.loop-i.invariant.3
