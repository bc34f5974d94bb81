-- `unchecked::has_all_places` meets its promise: after i turns the first i rows have all their places.
-- Assumes nothing.
use mathlib.Core.Path.{◌≡◌}
use mathlib.Core.Bool.{true}
use lib.ListN.{length}
use Rattle.base.specs.All.{all_to}
use Rattle.patterns.specs.Pattern.{row_of}
use Rattle.factors.specs.Copy.{row_has_places}
use Rattle.copy_check.proofs.unchecked.has_all_places.Given as goal

abbrev pub invariant-loop-i : goal.invariant-loop-i
invariant-loop-i l =
    (length l.marks ≡ 4096) × (all_to (λ k. row_has_places (row_of l.offsets l.columns k) (row_of l.starts l.entries k)) l.i ≡ true)
