-- `preconditioned_conjugate_gradient` meets its promise: refused with nothing changed, or solved.
-- Assumes nothing.
use mathlib.Core.Path.{refl, sym}
use mathlib.Core.List.{List}
use native.Mathlib.Omega.{arith}
use lib.ListN.{length}
use Rattle.std.proofs.Common.{rules}
use Rattle.answers.specs.Checks.{Check}
use Rattle.solvers.specs.Method.{matrix_of, Run}
use Rattle.solvers.specs.Solvers.{factor_as}
use Rattle.solvers.specs.Checks.{preconditioned_checks}
use Rattle.solvers.specs.Promise.{Lent, lent_of}
use Rattle.solvers.proofs.SolveLaws.{ended, refused_solve}
use Rattle.advancing.proofs.RunEnds.{lent_is}
use Rattle.preconditioned_gradient.specs.Answers.{preconditioned_run}
use Rattle.preconditioned_gradient.proofs.CheckLaws.{ready, beside, shape}
use Rattle.preconditioned_gradient.proofs.EndLaws.{norms_short, solution_is}
use Rattle.lent.proofs.DimLaws.{dim_of}
use Rattle.preconditioned_gradient.proofs.preconditioned_conjugate_gradient.Goals as goal

pub preconditioned_conjugate_gradient-count-requires : goal.preconditioned_conjugate_gradient-count-requires
preconditioned_conjugate_gradient-count-requires g c =
    let a = c.args in
    let zero_is = sym c.in_ok-check_preconditioned.ensures in
    let matrix = matrix_of a.starts.now a.entries.now a.a_values.now a.a_diagonal.now in
    let factor = factor_as a.offsets.now a.columns.now a.splits.now a.diagonal.now a.values.now in
    let shaped = shape g.S.Size.DIM (dim_of g.met.S.Size.sizes) a.limit matrix factor (length a.r.now) (length a.x.now) (length a.pr.now) (length a.p.now) (length a.history.now) zero_is in (
      ready g.S.Size.DIM (dim_of g.met.S.Size.sizes) a.limit matrix factor (length a.r.now) (length a.x.now) (length a.pr.now) (length a.p.now) (length a.history.now) zero_is,
      beside g.S.Size.DIM (dim_of g.met.S.Size.sizes) a.limit matrix factor (length a.r.now) (length a.x.now) (length a.pr.now) (length a.p.now) (length a.history.now) zero_is,
      shaped.room,
      shaped.few,
    )

pub preconditioned_solution-requires : goal.preconditioned_solution-requires
preconditioned_solution-requires g c =
    let a = c.args in
    let zero_is = sym c.in_ok-check_preconditioned.ensures in
    let matrix = matrix_of a.starts.now a.entries.now a.a_values.now a.a_diagonal.now in
    let factor = factor_as a.offsets.now a.columns.now a.splits.now a.diagonal.now a.values.now in
    let shaped = shape g.S.Size.DIM (dim_of g.met.S.Size.sizes) a.limit matrix factor (length a.r.now) (length a.x.now) (length a.pr.now) (length a.p.now) (length a.history.now) zero_is in
    let short = norms_short g.S.Size.DIM matrix factor a.tolerance a.limit a.r.now a.x.now a.pr.now a.p.now in
    let count = c.preconditioned_conjugate_gradient-count.ensures.of_count in
    let kept = c.preconditioned_conjugate_gradient-count.auto.history in
    (omega (arith, shaped.room, short, count, kept), omega (arith, shaped.few, short, count))

pub returns : goal.returns
returns g c =
    let checks : List Check = let a = c.args in
    preconditioned_checks g.S.Size.DIM a.limit a.starts.now a.entries.now (length a.a_values.now) (length a.a_diagonal.now) a.offsets.now a.columns.now a.splits.now
    (length a.diagonal.now) (length a.values.now) (length a.r.now) (length a.x.now) (length a.pr.now) (length a.p.now) (length a.history.now) in
    let old : Lent = let a = c.args in lent_of a.r.now a.x.now a.pr.now a.p.now a.history.now in
    let ran : Run = let a = c.args in
    preconditioned_run g.S.Size.DIM a.limit (matrix_of a.starts.now a.entries.now a.a_values.now a.a_diagonal.now) (factor_as a.offsets.now a.columns.now a.splits.now a.diagonal.now a.values.now) a.tolerance old in
    let left = c.preconditioned_conjugate_gradient-count.ensures in
    ended checks ran _ old refl c.in_ok-check_preconditioned.ensures _
    (solution_is left c.args.limit _ c.preconditioned_solution.ensures) _ (lent_is left)

pub returns-in_err-check_preconditioned : goal.returns-in_err-check_preconditioned
returns-in_err-check_preconditioned g c =
    let checks : List Check = let a = c.args in
    preconditioned_checks g.S.Size.DIM a.limit a.starts.now a.entries.now (length a.a_values.now) (length a.a_diagonal.now) a.offsets.now a.columns.now a.splits.now
    (length a.diagonal.now) (length a.values.now) (length a.r.now) (length a.x.now) (length a.pr.now) (length a.p.now) (length a.history.now) in
    let old : Lent = let a = c.args in lent_of a.r.now a.x.now a.pr.now a.p.now a.history.now in
    let ran : Run = let a = c.args in
    preconditioned_run g.S.Size.DIM a.limit (matrix_of a.starts.now a.entries.now a.a_values.now a.a_diagonal.now) (factor_as a.offsets.now a.columns.now a.splits.now a.diagonal.now a.values.now) a.tolerance old in
    refused_solve checks ran _ old _ _ (search rules) c.in_err-check_preconditioned.ensures
