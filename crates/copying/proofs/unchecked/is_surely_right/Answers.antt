-- `unchecked::is_surely_right` meets its promise: asked of a factor that is right.
-- Assumes nothing.
use Rattle.copy_check.proofs.StampLaws.{unsure}
use Rattle.copying.proofs.unchecked.is_surely_right.Goals as goal

pub returns-then-not-factor_is_right : goal.returns-then-not-factor_is_right
returns-then-not-factor_is_right c = λ e. unsure e

pub is_surely_placed-requires : goal.is_surely_placed-requires
is_surely_placed-requires c = (c.requires.0, c.requires.1, c.requires.2, c.requires.3 c.if-not-factor_is_right.false)

pub returns : goal.returns
returns c = λ e. (c.if-not-factor_is_right.false, (c.is_surely_placed.ensures e).0, (c.is_surely_placed.ensures e).1)
