-- `unchecked::turns` meets its promise: the steps that are left lead where all of them lead.
-- Assumes nothing.
use Prim.Native.Nat.{◌-◌}
use Rattle.solvers.specs.Method.{matrix_of, state_of}
use Rattle.solvers.specs.Solvers.{factor_as}
use Rattle.factor_steps.proofs.TurnLaws.{Turning}
use Rattle.factor_steps.proofs.unchecked.turns.Given as goal

abbrev pub invariant-loop-k : goal.invariant-loop-k
invariant-loop-k g l =
    Turning g.S.Size.DIM (matrix_of l.starts l.entries l.terms l.own) (factor_as l.offsets l.columns l.splits l.diagonal l.values) l.norm l.tolerance l.inverse l.limit (state_of l.initial.r l.initial.x l.initial.q l.initial.p l.first) l.initial.history
    l.r l.x l.q l.p l.history l.rho l.k

abbrev pub decreases-loop-k : goal.decreases-loop-k
decreases-loop-k g l =
    l.limit - l.k
