-- `at` meets its promise: after i turns the first i values are those of the part.
-- Assumes nothing.
use Rattle.std.proofs.Common.{◌≡◌, ℕ, ◌+◌, ◌<◌, length, get_or}
use Rattle.std.specs.Float.{nan}
use Rattle.blocks.proofs.unchecked.ArrayF64Lent.at.Given as goal

abbrev pub invariant-loop-i : goal.invariant-loop-i
invariant-loop-i g l = (length l.part ≡ g.row.L) × ((i : ℕ) → i < l.i → get_or l.part i nan ≡ get_or l.values (l.from + i) nan)
