-- A test of every number below a bound: what a check of each index says.
-- Definitions only.
use Rattle.std.specs.Prelude.{Bool, true, false, ◌&&◌, ℕ, zero, suc}

-- p holds at 0, 1, .., n - 1
unfoldable pub all_to : (ℕ → Bool) → ℕ → Bool
all_to p zero = true
all_to p (suc n) = all_to p n && p n
