-- `unchecked::never_fall` meets its promise: the flag says whether the offsets so far never fall.
-- Assumes nothing.
use mathlib.Core.Path.{◌≡◌}
use Prim.Native.Nat.{◌+◌}
use lib.ListN.{get_or}
use lib.Dec.{leb}
use Rattle.base.specs.All.{all_to}
use Rattle.patterns.proofs.unchecked.never_fall.Given as goal

abbrev pub invariant-loop-i : goal.invariant-loop-i
invariant-loop-i l = l.right ≡ all_to (λ k. leb (get_or l.offsets k 0) (get_or l.offsets (k + 1) 0)) l.i
