-- `copy_value` meets its promise: refused with nothing changed, or copied.
-- Assumes nothing.
use Rattle.std.proofs.Common.{rules}
use Rattle.answers.proofs.SameAnswer.{passed_up}
use mathlib.Core.Path.{refl, sym}
use mathlib.Core.List.{List}
use lib.ListN.{length}
use Rattle.answers.specs.Checks.{Check}
use Rattle.answers.proofs.EndLaws.{refused, done}
use Rattle.copying.specs.Checks.{copy_checks}
use Rattle.copying.proofs.CheckLaws.{both_same, copy_fits}
use Rattle.lent.proofs.DimLaws.{dim_of}
use Rattle.copying.proofs.copy_value.Goals as goal

pub returns-in_err-check_copy : goal.returns-in_err-check_copy
returns-in_err-check_copy g c =
    let on = passed_up (search rules) c.in_err-check_copy.ensures in
    let checks : List Check = let a = c.args in
    copy_checks g.S.Size.DIM a.starts.now a.entries.now (length a.a_diagonal.now) (length a.a_values.now) a.offsets.now a.columns.now a.splits.now (length a.diagonal.now) (length a.values.now) in
    refused checks _ on.number _ _ on.counts

pub copy_value-requires : goal.copy_value-requires
copy_value-requires g c =
    let a = c.args in
    copy_fits g.S.Size.DIM a.starts.now a.entries.now (length a.a_diagonal.now) (length a.a_values.now) a.offsets.now a.columns.now a.splits.now (length a.diagonal.now) (length a.values.now)
    (dim_of g.met.S.Size.sizes) (sym c.in_ok-check_copy.ensures)

pub returns : goal.returns
returns g c =
    let checks : List Check = let a = c.args in
    copy_checks g.S.Size.DIM a.starts.now a.entries.now (length a.a_diagonal.now) (length a.a_values.now) a.offsets.now a.columns.now a.splits.now (length a.diagonal.now) (length a.values.now) in
    done checks _ c.in_ok-check_copy.ensures _ _ _ refl refl (both_same c.copy_value.ensures.0 c.copy_value.ensures.1)
