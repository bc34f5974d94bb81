-- `unchecked::place_at` meets its promise: the mark that is read is the column's.
-- Assumes nothing.
use mathlib.Core.Path.{ap, ◌∙◌}
use Prim.Native.Nat.{ℕ}
use native.Mathlib.Omega.{arith}
use lib.ListN.{get_or}
use Rattle.copy_rows.proofs.unchecked.place_at.Goals as goal

pub bounds-marks-wide : goal.bounds-marks-wide
bounds-marks-wide c = omega (arith, c.wide.ensures, c.requires.1)

pub returns : goal.returns
returns c = c.wide_mark.ensures ∙ ap (λ (v : ℕ). get_or c.args.marks.now v 0) c.wide.ensures
