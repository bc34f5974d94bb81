-- `solve_preconditioning_vec` meets its promise: refused with vec as it was, or solved.
-- Assumes nothing.
use Rattle.std.proofs.Common.{rules}
use Rattle.answers.proofs.SameAnswer.{passed_up}
use mathlib.Core.Path.{refl, sym, ◌∙◌}
use lib.ListN.{length}
use Rattle.answers.proofs.EndLaws.{refused, done}
use Rattle.precondition.specs.Checks.{solve_checks}
use Rattle.precondition.proofs.CheckLaws.{factor_fits}
use Rattle.lent.proofs.DimLaws.{dim_of}
use Rattle.precondition.proofs.solve_preconditioning_vec.Goals as goal

pub returns-in_err-check_solve : goal.returns-in_err-check_solve
returns-in_err-check_solve g c =
    let on = passed_up (search rules) c.in_err-check_solve.ensures in
    let a = c.args in
    refused (solve_checks g.S.Size.DIM a.offsets.now a.columns.now a.splits.now (length a.diagonal.now) (length a.values.now) (length a.vec.now)) _ on.number _ _ on.counts

pub solve_preconditioning_vec-requires : goal.solve_preconditioning_vec-requires
solve_preconditioning_vec-requires g c =
    let a = c.args in
    factor_fits g.S.Size.DIM (dim_of g.met.S.Size.sizes) a.offsets.now a.columns.now a.splits.now (length a.diagonal.now) (length a.values.now) (length a.vec.now)
    (sym c.in_ok-check_solve.ensures)

pub returns : goal.returns
returns g c =
    let a = c.args in
    done (solve_checks g.S.Size.DIM a.offsets.now a.columns.now a.splits.now (length a.diagonal.now) (length a.values.now) (length a.vec.now)) _ c.in_ok-check_solve.ensures _ _ _ refl refl c.solve_preconditioning_vec.ensures
