-- What the marks of a row say, and what marking asks of it.
-- Definitions only. No public promise cites these.
use Rattle.std.specs.Prelude.{◌≡◌, List, true, ℕ, ◌+◌, ◌*◌, ◌≤◌, ◌<◌, length, get_or}
use Rattle.patterns.specs.Pattern.{all_below, once}

-- a row whose columns are below 4,096 and stand once in it
pub record Markable (row : List ℕ) : Type 0 where
  pub few : length row ≤ 65535
  pub below : all_below 4096 row ≡ true
  pub single : once row ≡ true

-- a place is a guess, or that many times 256 after it
abbrev pub Reached : ℕ → ℕ → Type 0
Reached guess place = (turns : ℕ) × (place ≡ guess + 256 * turns)

-- each of the first m columns of a row has a mark from which its place is reached; marks of other columns say nothing
abbrev pub MarkedTo : List ℕ → List ℕ → ℕ → Type 0
MarkedTo row marks m = (k : ℕ) → k < m → Reached (get_or marks (get_or row k 0) 0) k

-- all of them, where there is a mark to each of 4,096 columns
pub record Marked (row marks : List ℕ) : Type 0 where
  pub long : length marks ≡ 4096
  pub each : MarkedTo row marks (length row)
