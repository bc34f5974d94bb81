-- `unchecked::span_of` meets its promise: after e turns the span holds the first e columns.
-- Assumes nothing.
use Prim.Native.Nat.{◌≤◌}
use Rattle.fill.specs.Steps.{Spans}
use Rattle.fill_rows.proofs.unchecked.span_of.Given as goal

abbrev pub invariant-loop-column : goal.invariant-loop-column
invariant-loop-column l = (l.low ≤ l.n) × (l.high ≤ l.n) × Spans l.low l.high l.columns l.column-index
