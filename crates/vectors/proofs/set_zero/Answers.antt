-- `set_zero` meets its promise, refused and done.
-- Assumes nothing.
use Rattle.std.proofs.Common.{rules}
use Rattle.answers.proofs.SameAnswer.{passed_up}
use mathlib.Core.Path.{refl}
use Rattle.answers.proofs.EndLaws.{refused, done}
use Rattle.vectors.proofs.set_zero.Goals as goal

pub returns-in_err-check_rows : goal.returns-in_err-check_rows
returns-in_err-check_rows g c =
    let on = passed_up (search rules) c.in_err-check_rows.ensures in
    refused _ _ on.number _ _ on.counts

pub returns : goal.returns
returns g c =
    done _ _ c.in_ok-check_rows.ensures _ _ _ refl refl c.set_zero.ensures
