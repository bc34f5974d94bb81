-- `map` meets its promise: after k turns the first k values are what the calls gave.
-- Assumes nothing.
use Rattle.std.proofs.Common.{◌≡◌, ℕ, Float, ◌<◌, length, get_or}
use Rattle.std.specs.Float.{nan}
use Rattle.blocks.proofs.unchecked.ArrayF64Lent.map.Given as goal

abbrev pub invariant-loop-k : goal.invariant-loop-k
invariant-loop-k g l =
    (length l.new ≡ g.row.L)
    × ((h : ℕ → Float → Float) → ((k : ℕ) (x y : Float) → k < g.row.L → goal.F-post g l.f k x y → y ≡ h k x)
    → (k : ℕ) → k < l.k → get_or l.new k nan ≡ h k (get_or l.self k nan))
