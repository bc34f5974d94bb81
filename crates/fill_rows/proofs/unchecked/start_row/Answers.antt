-- `unchecked::start_row` meets its promise: a loaded row and its span.
-- Assumes nothing.
use mathlib.Core.Path.{refl}
use native.Mathlib.Omega.{arith}
use Prim.Native.Nat.{◌<◌}
use Rattle.patterns.specs.Pattern.{rows_of}
use Rattle.fill.proofs.PivotLaws.{row_started}
use Rattle.fill_rows.proofs.unchecked.start_row.Goals as goal

pub returns : goal.returns
returns c =
    let inside : c.args.i < rows_of c.args.offsets.now = omega (arith, c.requires.in_row, c.requires.rows) in
    let r = c.span_of.ensures in
    row_started _ _ _ _ _ c.requires.valid inside refl refl _ _ _ _ _ c.requires.rows c.requires.clear c.load_row.ensures r.0 r.1 (rw c.load_row.auto.row at r.2)
