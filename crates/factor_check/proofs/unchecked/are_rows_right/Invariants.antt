-- `unchecked::are_rows_right` meets its promise: after i turns the first i rows are right, and the steps over their ends are counted.
-- Assumes nothing.
use mathlib.Core.Path.{◌≡◌}
use Prim.Native.Nat.{ℕ, ◌-◌, ◌≤◌, ◌<◌}
use Rattle.patterns.specs.Pattern.{rows_of}
use Rattle.factor_check.specs.Steps.{count_to, end_falls_at, RightRowAt}
use Rattle.factor_check.proofs.unchecked.are_rows_right.Given as goal

abbrev pub invariant-loop-i : goal.invariant-loop-i
invariant-loop-i l =
    (l.i ≤ l.rows) × (l.rows ≡ rows_of l.offsets) × (l.n ≡ rows_of l.offsets) × (l.count ≡ count_to (end_falls_at l.offsets l.columns) l.i)
    × ((k : ℕ) → k < l.i → RightRowAt l.offsets l.columns l.splits k)

abbrev pub decreases-loop-i : goal.decreases-loop-i
decreases-loop-i l = l.rows - l.i
