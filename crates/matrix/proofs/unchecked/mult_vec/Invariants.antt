-- `unchecked::mult_vec` meets its promise: after i turns y, with what is left of it scaled, is y scaled whole and the first i rows added.
-- Assumes nothing.
use mathlib.Core.Path.{◌≡◌}
use Prim.Native.Nat.{◌*◌}
use lib.ListN.{length}
use lib.Ieee.{binary64}
use Rattle.base.specs.Iterate.{iterate}
use Rattle.vectors.specs.Vectors.{scaled_by}
use Rattle.matrix.specs.Product.{mult_row}
use Rattle.matrix.specs.Steps.{scaled_from}
use Rattle.matrix.proofs.unchecked.mult_vec.Given as goal

abbrev pub invariant-loop-i : goal.invariant-loop-i
invariant-loop-i g l =
    (length l.y ≡ length l.initial.y)
    × (scaled_from binary64 l.beta (g.S.Size.DIM * l.i) l.y ≡ iterate (mult_row binary64 g.S.Size.DIM l.alpha l.offsets l.columns l.values l.diagonal l.x) 0 l.i (scaled_by binary64 l.beta l.initial.y))
