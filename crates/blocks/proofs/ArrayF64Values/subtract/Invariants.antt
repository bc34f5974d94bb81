-- `subtract` meets its promise: after k turns the first k values are the new ones.
-- Assumes nothing.
use Rattle.std.proofs.Common.{◌≡◌, ℕ, ◌<◌, length, get_or}
use Rattle.std.specs.Float.{binary64, nan}
use Rattle.std.specs.Float.Ieee.{sub}
use Rattle.blocks.proofs.ArrayF64Values.subtract.Given as goal

abbrev pub invariant-loop-k : goal.invariant-loop-k
invariant-loop-k g l = (length l.difference ≡ g.row.L) × ((k : ℕ) → k < l.k → get_or l.difference k nan ≡ sub binary64 (get_or l.self k nan) (get_or l.other k nan))
