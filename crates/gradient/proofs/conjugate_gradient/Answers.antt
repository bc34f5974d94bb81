-- `conjugate_gradient` meets its promise: refused with nothing changed, or solved.
-- Assumes nothing.
use mathlib.Core.Path.{refl, sym}
use mathlib.Core.List.{List}
use native.Mathlib.Omega.{arith}
use lib.ListN.{length}
use Rattle.std.proofs.Common.{rules}
use Rattle.answers.specs.Checks.{Check}
use Rattle.solvers.specs.Method.{matrix_of, Run}
use Rattle.solvers.specs.Checks.{plain_checks}
use Rattle.solvers.specs.Promise.{Lent, lent_of}
use Rattle.solvers.proofs.SolveLaws.{ended, refused_solve}
use Rattle.gradient.specs.Answers.{plain_run}
use Rattle.gradient.proofs.CheckLaws.{plain_fits, has_room, few_steps}
use Rattle.gradient.proofs.StartLaws.{plain_short}
use Rattle.advancing.proofs.RunEnds.{lent_is}
use Rattle.gradient.proofs.EndLaws.{solution_is}
use Rattle.lent.proofs.DimLaws.{dim_of}
use Rattle.gradient.proofs.conjugate_gradient.Goals as goal

pub conjugate_gradient-count-requires : goal.conjugate_gradient-count-requires
conjugate_gradient-count-requires g c =
    let a = c.args in
    let zero_is = sym c.in_ok-check_plain.ensures in
    let matrix = matrix_of a.offsets.now a.columns.now a.values.now a.diagonal.now in (
      plain_fits g.S.Size.DIM (dim_of g.met.S.Size.sizes) a.limit matrix (length a.r.now) (length a.u.now) (length a.ap.now) (length a.p.now) (length a.history.now) zero_is,
      has_room g.S.Size.DIM (dim_of g.met.S.Size.sizes) a.limit matrix (length a.r.now) (length a.u.now) (length a.ap.now) (length a.p.now) (length a.history.now) zero_is,
    )

pub plain_solution-requires : goal.plain_solution-requires
plain_solution-requires g c =
    let a = c.args in
    let zero_is = sym c.in_ok-check_plain.ensures in
    let matrix = matrix_of a.offsets.now a.columns.now a.values.now a.diagonal.now in
    let room = has_room g.S.Size.DIM (dim_of g.met.S.Size.sizes) a.limit matrix (length a.r.now) (length a.u.now) (length a.ap.now) (length a.p.now) (length a.history.now) zero_is in
    let few = few_steps g.S.Size.DIM (dim_of g.met.S.Size.sizes) a.limit matrix (length a.r.now) (length a.u.now) (length a.ap.now) (length a.p.now) (length a.history.now) zero_is in
    let short = plain_short g.S.Size.DIM matrix a.tolerance a.limit a.r.now a.u.now a.ap.now a.p.now in
    let count = c.conjugate_gradient-count.ensures.of_count in
    let kept = c.conjugate_gradient-count.auto.history in
    (omega (arith, room, short, count, kept), omega (arith, few, short, count))

pub returns : goal.returns
returns g c =
    let checks : List Check = let a = c.args in
    plain_checks g.S.Size.DIM a.limit a.offsets.now a.columns.now (length a.values.now) (length a.diagonal.now) (length a.r.now) (length a.u.now) (length a.ap.now) (length a.p.now) (length a.history.now) in
    let old : Lent = let a = c.args in lent_of a.r.now a.u.now a.ap.now a.p.now a.history.now in
    let ran : Run = let a = c.args in
    plain_run g.S.Size.DIM a.limit (matrix_of a.offsets.now a.columns.now a.values.now a.diagonal.now) a.tolerance old in
    let left = c.conjugate_gradient-count.ensures in
    ended checks ran _ old refl c.in_ok-check_plain.ensures _
    (solution_is left c.args.tolerance _ c.plain_solution.ensures) _ (lent_is left)

pub returns-in_err-check_plain : goal.returns-in_err-check_plain
returns-in_err-check_plain g c =
    let checks : List Check = let a = c.args in
    plain_checks g.S.Size.DIM a.limit a.offsets.now a.columns.now (length a.values.now) (length a.diagonal.now) (length a.r.now) (length a.u.now) (length a.ap.now) (length a.p.now) (length a.history.now) in
    let old : Lent = let a = c.args in lent_of a.r.now a.u.now a.ap.now a.p.now a.history.now in
    let ran : Run = let a = c.args in
    plain_run g.S.Size.DIM a.limit (matrix_of a.offsets.now a.columns.now a.values.now a.diagonal.now) a.tolerance old in
    refused_solve checks ran _ old _ _ (search rules) c.in_err-check_plain.ensures
