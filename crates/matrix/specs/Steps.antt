-- What a turn of the product's loop does to y, and y as it is to be scaled: for the promises of the functions inside. No public promise cites these.
-- Definitions only.
use Rattle.std.specs.Prelude.{List, ◌++◌, ℕ, ◌*◌, take, drop, Float}
use Rattle.std.specs.Float.{Format}
use Rattle.blocks.specs.Block.{scaled}
use Rattle.blocks.specs.Lent.{vector_at, put_at}
use Rattle.vectors.specs.Vectors.{scaled_by}
use Rattle.matrix.specs.Product.{add_row}

-- y, with row i scaled by beta and then added to
unfoldable pub scale_add_row_at : Format → ℕ → Float → Float → List ℕ → ℕ → List Float → List Float → List Float → ℕ → List Float → List Float
scale_add_row_at f n beta alpha row first values diagonal x i y =
    put_at (n * i) (add_row f n alpha row first values diagonal x i (scaled f n (vector_at n y i) beta)) y

-- y with its values from place p on scaled by beta
unfoldable pub scaled_from : Format → Float → ℕ → List Float → List Float
scaled_from f beta p y = take p y ++ scaled_by f beta (drop p y)
