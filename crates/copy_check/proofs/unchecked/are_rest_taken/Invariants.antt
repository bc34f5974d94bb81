-- `unchecked::are_rest_taken` meets its promise: after k turns the first k columns have taken their stamps.
-- Assumes nothing.
use mathlib.Core.Path.{◌≡◌}
use lib.ListN.{length}
use Rattle.copy_check.specs.Stamps.{Takes}
use Rattle.copy_check.proofs.unchecked.are_rest_taken.Given as goal

abbrev pub invariant-loop-k : goal.invariant-loop-k
invariant-loop-k l = (length l.marks ≡ 4096) × (Takes l.stamp l.from l.start l.k l.initial.marks l.marks)
