-- What the functions that check nothing ask and promise: a row's blocks put one after the other. No public promise cites these.
-- Definitions only.
use Rattle.std.specs.Prelude.{◌≡◌, List, true, ℕ, ◌+◌, ◌*◌, ◌≤◌, length, get_or, Float}
use Rattle.std.specs.Float.{Format}
use Rattle.blocks.specs.Lent.{put_at}
use Rattle.lent.specs.Steps.{Dim}
use Rattle.patterns.specs.Pattern.{all_below}
use Rattle.places.specs.Places.{Markable}
use Rattle.factors.specs.Copy.{all_have_places, copied_block}
use Rattle.copy_check.specs.Steps.{Patterns}

-- the block of place p of a row is put into the row's values
unfoldable pub put_copied : Format → ℕ → List ℕ → ℕ → List Float → List ℕ → ℕ → List Float → List Float
put_copied f n from first values row p out = put_at (n * n * p) (copied_block f n from first values (get_or row p 0)) out

-- a row of A and the row of the factor that it goes to: A has a block to each of its entries, and there is room for a block to each place
pub record CopyRow (n : ℕ) (row from : List ℕ) (first values out : ℕ) : Type 0 where
  pub marks : Markable from
  pub low : all_below 4096 row ≡ true
  pub stored : n * n * (first + length from) ≤ values
  pub room : out ≡ n * n * length row

-- two valid patterns, with a place in the factor for each entry of A and a block to each entry of both
pub record CopyFits (n : ℕ) (starts entries offsets columns : List ℕ) (a-values values : ℕ) : Type 0 where
  pub dim : Dim n
  pub patterns : Patterns starts entries offsets columns
  pub placed : all_have_places starts entries offsets columns ≡ true
  pub of_a : a-values ≡ n * n * length entries
  pub of_values : values ≡ n * n * length columns
