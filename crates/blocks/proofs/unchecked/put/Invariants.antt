-- `unchecked::put` meets its promise: after k turns the first k new values are in their places, and all else is as it was.
-- Assumes nothing.
use Rattle.std.proofs.Common.{◌≡◌, length}
use Rattle.std.proofs.Math.Seq.{paste}
use Rattle.blocks.proofs.unchecked.put.Given as goal

abbrev pub invariant-loop-k : goal.invariant-loop-k
invariant-loop-k l = (length l.values ≡ length l.initial.values) × (l.values ≡ paste l.initial.values l.at l.new l.k)
