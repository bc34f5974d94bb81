-- `unchecked::fix_entries` meets its promise: after k turns the first k entries are as their fixed values say.
-- Assumes nothing.
use Rattle.std.proofs.Common.{◌≡◌, length}
use Rattle.std.specs.Float.{binary64}
use Rattle.base.specs.Iterate.{iterate}
use Rattle.fixing.specs.Fixing.{fix_entry}
use Rattle.fixing.proofs.unchecked.fix_entries.Given as goal

abbrev pub invariant-loop-k : goal.invariant-loop-k
invariant-loop-k g l =
    (length l.values ≡ length l.initial.values) × (l.values ≡ iterate (fix_entry binary64 g.S.Size.DIM l.flags l.i l.row l.first) 0 l.k l.initial.values)
