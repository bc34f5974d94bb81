-- `set_fix_dof_to_rhs_vector` meets its promise, refused and done.
-- Assumes nothing.
use Rattle.std.proofs.Common.{rules}
use Rattle.answers.proofs.SameAnswer.{passed_up}
use mathlib.Core.Path.{refl, sym}
use native.Mathlib.Omega.{arith}
use lib.ListN.{length}
use Rattle.vectors.proofs.CheckLaws.{long_flag_lengths}
use Rattle.answers.proofs.EndLaws.{refused, done}
use Rattle.vectors.proofs.set_fix_dof_to_rhs_vector.Goals as goal

pub returns-in_err-check_long_flags : goal.returns-in_err-check_long_flags
returns-in_err-check_long_flags g c =
    let on = passed_up (search rules) c.in_err-check_long_flags.ensures in
    refused _ _ on.number _ _ on.counts

pub set_fixed-requires : goal.set_fixed-requires
set_fixed-requires g c =
    let a = c.args in
    let zero_is = sym c.in_ok-check_long_flags.ensures in
    omega (arith, long_flag_lengths a.n g.S.Size.DIM (length a.rhs.now) (length a.flags.now) zero_is)

pub returns : goal.returns
returns g c =
    done _ _ c.in_ok-check_long_flags.ensures _ _ _ refl refl c.set_fixed.ensures
