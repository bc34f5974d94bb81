-- `unchecked::is_surely_placed` meets its promise: the factor's own pattern, or starts that are right and rows that are placed, make A right.
-- Assumes nothing.
use mathlib.Core.Path.{sym, ◌∙◌}
use Prim.Native.Nat.{◌≤◌}
use lib.ListN.{length}
use Rattle.patterns.specs.Pattern.{rows_of}
use Rattle.patterns.proofs.SizeLaws.{rows_least, rows_most, columns_most}
use Rattle.copy_check.proofs.PlacedLaws.{surely_valid, surely_placed}
use Rattle.copy_check.proofs.unchecked.is_surely_placed.Goals as goal

pub returns : goal.returns
returns c =
    -- how many rows there are
    let sizes : (let a = c.args in
    (1 ≤ rows_of a.starts.now) × (rows_of a.starts.now ≤ 4096) × (1 ≤ rows_of a.offsets.now) × (rows_of a.offsets.now ≤ 4096) × (length a.columns.now ≤ 65535)) = let a = c.args in (
      rows_least (length a.starts.now) (length a.entries.now) c.requires.0,
      rows_most (length a.starts.now) (length a.entries.now) c.requires.0,
      rows_least (length a.offsets.now) (length a.columns.now) c.requires.1,
      rows_most (length a.offsets.now) (length a.columns.now) c.requires.1,
      columns_most (length a.offsets.now) (length a.columns.now) c.requires.1,
    ) in
    let a = c.args in
    let z = sizes in
    let valid = sym c.has_valid_starts.ensures ∙ c.if-not-has_valid_starts.false in
    λ e.
    let right = c.are_rows_placed.ensures e in (
      surely_valid a.starts.now a.entries.now a.offsets.now a.columns.now right z.3 z.4 c.requires.2 c.requires.3 valid,
      surely_placed a.starts.now a.entries.now a.offsets.now a.columns.now right z.3 z.4 c.requires.2 c.requires.3 valid,
    )
