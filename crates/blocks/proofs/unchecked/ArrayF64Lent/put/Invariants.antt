-- `put` meets its promise: after i turns the first i values are in their places, and all else is as it was.
-- Assumes nothing.
use Rattle.std.proofs.Common.{◌≡◌, length}
use Rattle.std.proofs.Math.Seq.{paste}
use Rattle.blocks.proofs.unchecked.ArrayF64Lent.put.Given as goal

abbrev pub invariant-loop-i : goal.invariant-loop-i
invariant-loop-i g l = (length l.values ≡ length l.initial.values) × (l.values ≡ paste l.initial.values l.from l.self l.i)
