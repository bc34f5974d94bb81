-- `check_long_flags` meets its promise: each return answers the first check whose condition holds.
-- Assumes nothing.
use Rattle.std.proofs.Common.{rules}
use Rattle.answers.proofs.SameAnswer.{passed_up}
use mathlib.Core.Path.{◌≡◌, sym, ◌∙◌}
use native.Mathlib.Omega.{arith}
use Rattle.answers.specs.Checks.{first_of}
use Rattle.answers.specs.Limits.{vector_checks}
use Rattle.vectors.proofs.CheckLaws.{long_flag_refused, long_flag_short, long_flag_enough}
use Rattle.vectors.proofs.check_long_flags.Goals as goal

pub returns-in_err-check_rows : goal.returns-in_err-check_rows
returns-in_err-check_rows g c =
    let on = passed_up (search rules) c.in_err-check_rows.ensures in
    let a = c.args in
    on.number
    ∙ long_flag_refused a.n g.S.Size.DIM a.values a.flags (λ z. on.counts (on.number ∙ z))

pub returns-then-flags-values : goal.returns-then-flags-values
returns-then-flags-values g c =
    -- past the first test the first slice is not refused
    let done : first_of (vector_checks c.args.n g.S.Size.DIM c.args.values) ≡ 0 = sym c.in_ok-check_rows.ensures in
    let a = c.args in
    sym (long_flag_short a.n g.S.Size.DIM a.values a.flags done (omega arith))

pub returns : goal.returns
returns g c =
    -- past the first test the first slice is not refused
    let done : first_of (vector_checks c.args.n g.S.Size.DIM c.args.values) ≡ 0 = sym c.in_ok-check_rows.ensures in
    let a = c.args in
    c.in_ok-check_rows.ensures ∙ done ∙ sym (long_flag_enough a.n g.S.Size.DIM a.values a.flags done (omega arith))
