-- `roots::checker::is_nearest` meets its contract. Each way out is a law of `proofs/CheckerLaws.antt`.
-- Assumes nothing.
use Rattle.std.proofs.Common.{◌∙◌}
use Rattle.roots.proofs.CheckerLaws.{subnormal_fails, infinite_fails, too_high_fails, passes}
use Rattle.roots.proofs.checker.is_nearest.Goals.{then-r-lt-LEADING-via-then-r-lt-LEADING, then-r-lt-LEADING-via-else-r-lt-LEADING+then-r}
use Rattle.roots.proofs.checker.is_nearest.Goals as goal

pub returns-then-r-lt-LEADING : goal.returns-then-r-lt-LEADING
returns-then-r-lt-LEADING c =
    let a = c.args in
    elim c.then-r-lt-LEADING.branch [
      | then-r-lt-LEADING-via-then-r-lt-LEADING w ↦ subnormal_fails a.x a.r w.if-r-lt-LEADING.true
      | then-r-lt-LEADING-via-else-r-lt-LEADING+then-r w ↦ infinite_fails a.x a.r w.if-r-lt-LEADING.false w.if-r.true
    ]

pub returns-then-down-up : goal.returns-then-down-up
returns-then-down-up c =
    let a = c.args in
    too_high_fails a.x a.r c.exponent_of-up.result c.exponent_of-down.result c.if-r-lt-LEADING.false c.if-r.false c.exponent_of-up.ensures.0 c.exponent_of-down.ensures.0 c.if-down-up.true

pub returns : goal.returns
returns c =
    let a = c.args in
    c.nearest_digits.ensures
    ∙ passes a.x a.r c.exponent_of-up.result c.exponent_of-down.result c.if-r-lt-LEADING.false c.if-r.false c.exponent_of-up.ensures.0 c.exponent_of-down.ensures.0
    c.digits_of.result c.moved_up-scaled.result c.if-down-up.false c.digits_of.ensures.0 c.moved_up-scaled.ensures.0
