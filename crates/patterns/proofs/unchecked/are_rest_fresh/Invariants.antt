-- `unchecked::are_rest_fresh` meets its promise: the columns so far were fresh, so that those left decide.
-- Assumes nothing.
use mathlib.Core.Bool.{true}
use Rattle.patterns.specs.Marks.{Marking}
use Rattle.patterns.proofs.unchecked.are_rest_fresh.Given as goal

abbrev pub invariant-loop-k : goal.invariant-loop-k
invariant-loop-k l = Marking l.stamp l.row l.from l.k true l.initial.marks l.marks
