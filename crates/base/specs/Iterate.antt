-- A state that changes step by step over a range of indexes, in rising order: for loops that read what an earlier turn wrote.
-- Definitions only.
use Rattle.std.specs.Prelude.{ℕ, zero, suc, ◌+◌, ◌-◌}

-- n steps from lo on: lo, lo + 1, .., lo + n - 1
unfoldable pub steps : {S : Type 0} → (ℕ → S → S) → ℕ → ℕ → S → S
steps f lo zero s = s
steps f lo (suc n) s = f (lo + n) (steps f lo n s)

-- the steps lo .. hi, hi left out
unfoldable pub iterate : {S : Type 0} → (ℕ → S → S) → ℕ → ℕ → S → S
iterate f lo hi s = steps f lo (hi - lo) s
