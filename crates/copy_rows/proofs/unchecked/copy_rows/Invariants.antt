-- `unchecked::copy_rows` meets its promise: after i turns the first i rows have their blocks.
-- Assumes nothing.
use mathlib.Core.Path.{◌≡◌}
use mathlib.Core.List.{◌++◌}
use Prim.Native.Nat.{◌*◌}
use lib.ListN.{length, get_or, drop}
use lib.Ieee.{binary64}
use Rattle.factors.specs.Copy.{joined}
use Rattle.copy_rows.proofs.AllLaws.{copied}
use Rattle.copy_rows.proofs.unchecked.copy_rows.Given as goal

abbrev pub invariant-loop-i : goal.invariant-loop-i
invariant-loop-i g l =
    (length l.values ≡ length l.initial.values) × (length l.marks ≡ 4096)
    × (l.values ≡ joined l.i (copied binary64 g.S.Size.DIM l.starts l.entries l.a_values l.offsets l.columns) ++ drop (g.S.Size.DIM * g.S.Size.DIM * get_or l.offsets l.i 0) l.initial.values)
