-- `has_no_zero` meets its promise: after k turns the first k values are no zeros, or one of them is.
-- Assumes nothing.
use Rattle.std.proofs.Common.{◌≡◌, get_or}
use Rattle.std.specs.Prelude.{not}
use Rattle.std.specs.Float.{binary64, nan}
use Rattle.std.specs.Float.Ieee.{eq}
use Rattle.base.specs.All.{all_to}
use Rattle.blocks.specs.Block.{plus_zero}
use Rattle.blocks.proofs.ArrayF64Values.has_no_zero.Given as goal

abbrev pub invariant-loop-k : goal.invariant-loop-k
invariant-loop-k g l = l.none ≡ all_to (λ k. not (eq (get_or l.self k nan) (plus_zero binary64))) l.k
