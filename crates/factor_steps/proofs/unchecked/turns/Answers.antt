-- `unchecked::turns` meets its promise: the steps that are left lead where all of them lead.
-- Assumes nothing.
use mathlib.Core.Path.{◌∙◌}
use Prim.Native.Nat.{◌+◌}
use native.Mathlib.Omega.{arith}
use lib.ListN.{length-set}
use lib.Ieee.{binary64}
use Rattle.solvers.specs.Method.{matrix_of, state_of, Run, run}
use Rattle.solvers.specs.Solvers.{factor_as, by_factor}
use Rattle.factor_steps.proofs.TurnLaws.{turning_start, turning_on, turning_stops, turning_end, from_first}
use borrow.Author.Rules.{rules}
use Rattle.factor_steps.proofs.unchecked.turns.Goals as goal

pub loop-k-init : goal.loop-k-init
loop-k-init g c = turning_start c.args.history.now c.requires.0 c.requires.1 c.requires.2 c.requires.3

pub returns-then-square_root-tolerance : goal.returns-then-square_root-tolerance
returns-then-square_root-tolerance g c =
    -- the run that the function makes
    let ran : Run = let a = c.args in
    run (by_factor binary64 g.S.Size.DIM (matrix_of a.starts.now a.entries.now a.terms.now a.own.now)
    (factor_as a.offsets.now a.columns.now a.splits.now a.diagonal.now a.values.now) a.tolerance a.inverse) a.limit
    (state_of a.r.now a.x.now a.q.now a.p.now a.first) in
    let l = c.loop-k in
    let a = c.args in
    from_first g.S.Size.DIM (matrix_of a.starts.now a.entries.now a.terms.now a.own.now) a.norm ran a.history.now _ _ _ _ _ _
    (turning_stops l.invariant (omega (arith, c.loop-k-test.true)) _ _ _ _ _ _ c.advance-square.ensures c.square_root.ensures.0 c.square_root-in-loop-k.ensures.0 c.if-square_root-tolerance.true)

pub loop-k-preserved : goal.loop-k-preserved
loop-k-preserved g c =
    let l = c.loop-k in
    let kept = c.advance-square.auto in
    let solved = c.precondition-next in
    let turned = c.scale_and_add_vec in
    turning_on l.invariant (search rules) _ _ _ _ _ _ c.advance-square.ensures c.square_root.ensures.0 c.square_root-in-loop-k.ensures.0 _ _ _ solved.ensures turned.ensures
    c.if-square_root-tolerance.false kept.r kept.x (solved.auto.q ∙ kept.q) turned.auto.p

pub shape_of-history-then-square_root-tolerance : goal.shape_of-history-then-square_root-tolerance
shape_of-history-then-square_root-tolerance g c = let l = c.loop-k in length-set l.history (l.k + 1) _ ∙ l.invariant.len_h ∙ length-set c.args.history.now 0 _

pub precondition-next-requires : goal.precondition-next-requires
precondition-next-requires g c =
    let l = c.loop-k in
    let kept = c.advance-square.auto in
    (l.invariant.beside.fits, kept.q ∙ l.invariant.of_q, kept.r ∙ l.invariant.of_r)

pub shape_of-history : goal.shape_of-history
shape_of-history g c =
    let l = c.loop-k in
    let a = c.args in
    length-set l.history (a.limit + 1) _ ∙ l.invariant.len_h ∙ length-set a.history.now 0 _

pub offset_bounds-history-limit : goal.offset_bounds-history-limit
offset_bounds-history-limit g c = record { fits = omega (arith, c.loop-k.invariant.few) }

pub returns : goal.returns
returns g c =
    -- the run that the function makes
    let ran : Run = let a = c.args in
    run (by_factor binary64 g.S.Size.DIM (matrix_of a.starts.now a.entries.now a.terms.now a.own.now)
    (factor_as a.offsets.now a.columns.now a.splits.now a.diagonal.now a.values.now) a.tolerance a.inverse) a.limit
    (state_of a.r.now a.x.now a.q.now a.p.now a.first) in
    let a = c.args in
    from_first g.S.Size.DIM (matrix_of a.starts.now a.entries.now a.terms.now a.own.now) a.norm ran a.history.now _ _ _ _ _ _ (turning_end c.loop-k.invariant (search rules) _ _ c.dot.ensures c.square_root-2.ensures.0)
