-- `unchecked::has_valid_splits` meets its promise: the part that is lent is the row, and the rows so far are right.
-- Assumes nothing.
use mathlib.Core.Path.{◌≡◌}
use mathlib.Core.Bool.{true}
use Rattle.base.specs.All.{all_to}
use Rattle.patterns.proofs.FactorLaws.{factor_row_at}
use Rattle.patterns.proofs.unchecked.has_valid_splits.Given as goal

abbrev pub invariant-loop-i : goal.invariant-loop-i
invariant-loop-i l = all_to (factor_row_at l.offsets l.columns l.splits) l.i ≡ true
