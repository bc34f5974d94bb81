-- `square_root` meets its promise: after i turns the first i values are roots.
-- Assumes nothing.
use mathlib.Core.Path.{◌≡◌}
use lib.Ieee.{binary64}
use Rattle.base.specs.Each.{each_to}
use Rattle.timed_blocks.specs.Timed.{root_at}
use Rattle.timed_blocks.proofs.square_root.Given as goal

abbrev pub invariant-loop-i : goal.invariant-loop-i
invariant-loop-i l = l.out ≡ each_to (root_at binary64 l.x) l.i l.initial.out
