-- `scale` meets its promise: after k turns the first k values are the new ones.
-- Assumes nothing.
use Rattle.std.proofs.Common.{◌≡◌, ℕ, ◌<◌, length, get_or}
use Rattle.std.specs.Float.{binary64, nan}
use Rattle.std.specs.Float.Ieee.{mul}
use Rattle.blocks.proofs.ArrayF64Values.scale.Given as goal

abbrev pub invariant-loop-k : goal.invariant-loop-k
invariant-loop-k g l = (length l.scaled ≡ g.row.L) × ((k : ℕ) → k < l.k → get_or l.scaled k nan ≡ mul binary64 (get_or l.self k nan) l.s)
