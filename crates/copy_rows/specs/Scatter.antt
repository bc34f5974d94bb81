-- A row at N = 1 whose values are put where marks say. No public promise cites these.
-- Definitions only.
use Rattle.std.specs.Prelude.{◌≡◌, List, ℕ, ◌+◌, ◌<◌, length, get_or, set, Float}
use Rattle.std.specs.Float.{Format, nan}
use Rattle.blocks.specs.Block.{plus_zero}

-- the mark of column k of A's row
abbrev pub mark_of : List ℕ → List ℕ → ℕ → ℕ
mark_of from marks k = get_or marks (get_or from k 0) 0

-- each column of A's row has one, and it is a place of a row's values
pub record Guided (from marks : List ℕ) (out : ℕ) : Type 0 where
  pub long : length marks ≡ 4096
  pub low : (k : ℕ) → k < length from → get_or from k 0 < 4096
  pub within : (k : ℕ) → k < length from → mark_of from marks k < out

-- value k of A's row is put there
unfoldable pub put_marked : List ℕ → ℕ → List Float → List ℕ → ℕ → List Float → List Float
put_marked from first values marks k out = set out (mark_of from marks k) (get_or values (first + k) nan)

-- the first m values are +0
abbrev pub Zeros : Format → List Float → ℕ → Type 0
Zeros f out m = (q : ℕ) → q < m → get_or out q nan ≡ plus_zero f
