-- `unchecked::agreeing` meets its promise: the rows agree up to place k.
-- Assumes nothing.
use Rattle.copy_check.specs.Steps.{Agree}
use Rattle.copy_check.proofs.unchecked.agreeing.Given as goal

abbrev pub invariant-loop-k : goal.invariant-loop-k
invariant-loop-k l = Agree l.row l.from l.k
