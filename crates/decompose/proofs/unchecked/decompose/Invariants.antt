-- `unchecked::decompose` meets its promise: after i turns, what the rows from i on do to what is left is what all rows do.
-- Assumes nothing.
use mathlib.Core.Path.{◌≡◌}
use Prim.Native.Nat.{◌-◌}
use lib.ListN.{length}
use lib.Ieee.{binary64}
use Rattle.patterns.specs.Pattern.{rows_of}
use Rattle.factors.specs.Factor.{decompose_from, decompose}
use Rattle.reducing.specs.Lent.{pattern_of, factor_of}
use Rattle.decompose.proofs.unchecked.decompose.Given as goal

abbrev pub invariant-loop-i : goal.invariant-loop-i
invariant-loop-i g l =
    (length l.diagonal ≡ length l.initial.diagonal) × (length l.values ≡ length l.initial.values) × (length l.marks ≡ 4096)
    × (decompose binary64 g.S.Size.DIM (pattern_of l.offsets l.columns l.splits) (factor_of l.initial.diagonal l.initial.values)
    ≡ decompose_from binary64 g.S.Size.DIM (pattern_of l.offsets l.columns l.splits) l.i (rows_of l.offsets - l.i) (factor_of l.diagonal l.values))
