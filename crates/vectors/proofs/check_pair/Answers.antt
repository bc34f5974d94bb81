-- `check_pair` meets its promise: each return answers the first check whose condition holds.
-- Assumes nothing.
use Rattle.std.proofs.Common.{rules}
use Rattle.answers.proofs.SameAnswer.{passed_up}
use mathlib.Core.Path.{◌≡◌, sym, ◌∙◌}
use native.Mathlib.Omega.{arith}
use Rattle.answers.specs.Checks.{first_of}
use Rattle.answers.specs.Limits.{vector_checks}
use Rattle.vectors.proofs.CheckLaws.{pair_refused, pair_unlike, pair_alike}
use Rattle.vectors.proofs.check_pair.Goals as goal

pub returns-in_err-check_rows : goal.returns-in_err-check_rows
returns-in_err-check_rows g c =
    let on = passed_up (search rules) c.in_err-check_rows.ensures in
    let a = c.args in
    on.number
    ∙ pair_refused a.n g.S.Size.DIM a.first a.second (λ z. on.counts (on.number ∙ z))

pub returns-then-second-first : goal.returns-then-second-first
returns-then-second-first g c =
    -- past the first test the first slice is not refused
    let done : first_of (vector_checks c.args.n g.S.Size.DIM c.args.first) ≡ 0 = sym c.in_ok-check_rows.ensures in
    let a = c.args in
    sym (pair_unlike a.n g.S.Size.DIM a.first a.second done (λ e. absurd (omega (arith, c.if-second-first.true, e))))

pub returns : goal.returns
returns g c =
    -- past the first test the first slice is not refused
    let done : first_of (vector_checks c.args.n g.S.Size.DIM c.args.first) ≡ 0 = sym c.in_ok-check_rows.ensures in
    let a = c.args in
    c.in_ok-check_rows.ensures ∙ done ∙ sym (pair_alike a.n g.S.Size.DIM a.first a.second done (omega arith))
