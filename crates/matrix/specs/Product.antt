-- Document 01's `mult_vec`: y is scaled by beta first, then for each row the entries in stored order, then the diagonal, each block product scaled by alpha and added.
-- At any format f and any N. Definitions only.
use Rattle.std.specs.Prelude.{List, ℕ, ◌+◌, ◌*◌, length, get_or, Float}
use Rattle.std.specs.Float.{Format}
use Rattle.base.specs.Iterate.{iterate}
use Rattle.blocks.specs.Block.{applied, scaled, added}
use Rattle.blocks.specs.Lent.{block_at, vector_at, put_at}
use Rattle.patterns.specs.Pattern.{rows_of, row_of}
use Rattle.vectors.specs.Vectors.{scaled_by}

-- a row's value t, to which alpha times block e of the values times row j of x is added
unfoldable pub add_product : Format → ℕ → Float → List Float → ℕ → List Float → ℕ → List Float → List Float
add_product f n alpha values e x j t = added f n t (scaled f n (applied f n (block_at n values e) (vector_at n x j)) alpha)

-- entry k of a row whose first entry is `first`
unfoldable pub add_entry : Format → ℕ → Float → List ℕ → ℕ → List Float → List Float → ℕ → List Float → List Float
add_entry f n alpha row first values x k t = add_product f n alpha values (first + k) x (get_or row k 0) t

-- the entries of a row in stored order
unfoldable pub add_entries : Format → ℕ → Float → List ℕ → ℕ → List Float → List Float → List Float → List Float
add_entries f n alpha row first values x t = iterate (add_entry f n alpha row first values x) 0 (length row) t

-- then the diagonal
unfoldable pub add_row : Format → ℕ → Float → List ℕ → ℕ → List Float → List Float → List Float → ℕ → List Float → List Float
add_row f n alpha row first values diagonal x i t = add_product f n alpha diagonal i x i (add_entries f n alpha row first values x t)

-- y, with that in row i
unfoldable pub add_row_at : Format → ℕ → Float → List ℕ → ℕ → List Float → List Float → List Float → ℕ → List Float → List Float
add_row_at f n alpha row first values diagonal x i y = put_at (n * i) (add_row f n alpha row first values diagonal x i (vector_at n y i)) y

-- row i of a matrix
unfoldable pub mult_row : Format → ℕ → Float → List ℕ → List ℕ → List Float → List Float → List Float → ℕ → List Float → List Float
mult_row f n alpha offsets columns values diagonal x i y = add_row_at f n alpha (row_of offsets columns i) (get_or offsets i 0) values diagonal x i y

-- y scaled by beta (multiplied, also by 0), then each row
unfoldable pub mult_vec : Format → ℕ → List ℕ → List ℕ → List Float → List Float → Float → Float → List Float → List Float → List Float
mult_vec f n offsets columns values diagonal beta alpha x y =
    iterate (mult_row f n alpha offsets columns values diagonal x) 0 (rows_of offsets) (scaled_by f beta y)
