-- `unchecked::gather` meets its promise: after each turn one more block is put.
-- Assumes nothing.
use mathlib.Core.Path.{◌≡◌}
use lib.ListN.{length}
use lib.Ieee.{binary64}
use Rattle.base.specs.Iterate.{iterate}
use Rattle.copy_rows.specs.Steps.{put_copied}
use Rattle.copy_rows.proofs.unchecked.gather.Given as goal

abbrev pub invariant-loop-p : goal.invariant-loop-p
invariant-loop-p g l =
    (length l.out ≡ length l.initial.out) × (l.out ≡ iterate (put_copied binary64 g.S.Size.DIM l.from l.first l.values l.row) 0 l.p l.initial.out)
