-- `unchecked::clear_unless` meets its promise: after q turns the first q values are +0.
-- Assumes nothing.
use mathlib.Core.Path.{◌≡◌}
use lib.ListN.{length}
use lib.Ieee.{binary64}
use Rattle.copy_rows.specs.Scatter.{Zeros}
use Rattle.copy_rows.proofs.unchecked.clear_unless.Given as goal

abbrev pub invariant-loop-x : goal.invariant-loop-x
invariant-loop-x l = (length l.out ≡ length l.fn.out) × (Zeros binary64 l.out l.x-index)
