-- `unchecked::fix_diagonal` meets its promise: after i turns the first i blocks are as their fixed values say.
-- Assumes nothing.
use mathlib.Core.Path.{◌≡◌}
use lib.ListN.{length}
use lib.Ieee.{binary64}
use Rattle.base.specs.Iterate.{iterate}
use Rattle.fixing.specs.Fixing.{is_fixed, fix_diagonal_at}
use Rattle.fixing.proofs.unchecked.fix_diagonal.Given as goal

abbrev pub invariant-loop-i : goal.invariant-loop-i
invariant-loop-i g l =
    (length l.diagonal ≡ length l.initial.diagonal) × (l.diagonal ≡ iterate (λ j. fix_diagonal_at binary64 g.S.Size.DIM l.val_dia (is_fixed g.S.Size.DIM l.flags j) j) 0 l.i l.initial.diagonal)
