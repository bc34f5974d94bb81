-- A row's value that is worked out in a quicker way: the same as the right one, or both are zeros. For the promises of the functions inside. No public promise cites these.
-- Definitions only.
use Rattle.std.specs.Prelude.{Bool, List, ℕ, ◌<◌, pos, get_or, Float}
use Rattle.std.specs.Float.{nan, fin}

-- two values that are the same, or zeros of any signs
pub data Alike : Float → Float → Type 0 where
  same : {x : Float} → Alike x x
  zeros : {s t : Bool} → Alike (fin s 0 (pos 0)) (fin t 0 (pos 0))

-- the first n values of two rows
pub record RowsAlike (n : ℕ) (s t : List Float) : Type 0 where
  pub at : (k : ℕ) → k < n → Alike (get_or s k nan) (get_or t k nan)
