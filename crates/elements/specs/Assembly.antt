-- Document 01's assembly, at any format f and any N: the blocks of an element are added to those of a matrix, in order row node, column node, place.
-- Definitions only.
use Rattle.std.specs.Prelude.{List, [], cond, ℕ, ◌+◌, ◌*◌, length, get_or, Float}
use Rattle.std.specs.Float.{Format}
use Rattle.base.specs.Iterate.{iterate}
use Rattle.blocks.specs.Block.{added}
use Rattle.blocks.specs.Lent.{block_at, put_at}
use Rattle.elements.specs.declared.unchecked.Rule.{Rule}
use Rattle.elements.specs.declared.unchecked.Rule.TheVariants.{Place, Number, Never}
use Rattle.elements.specs.Pairs.{to_diagonal, entry_at}

-- what an assembly changes: the diagonal values and the entry values
abbrev pub Lists : Type 0
Lists = List Float × List Float

-- block e of the target: the element's block k is added to it, value by value
unfoldable pub add_block : Format → ℕ → List Float → ℕ → ℕ → List Float → List Float
add_block f n element k e target = put_at (n * n * e) (added f (n * n) (block_at n target e) (block_at n element k)) target

-- the pair of row node a and column node b, whose block is m * a + b: its row's block of the diagonal, or the entry that it has
unfoldable pub add_pair : Format → ℕ → Rule → List ℕ → List ℕ → List Float → (ℕ → ℕ → ℕ) → ℕ → ℕ → Lists → Lists
add_pair f n rule rows cols element entry a b old =
    let k = length rows * a + b in
    cond (to_diagonal rule rows cols a b) (add_block f n element k (get_or rows a 0) old.0, old.1) (old.0, add_block f n element k (entry a b) old.1)

-- every column node of a row node
unfoldable pub add_row : Format → ℕ → Rule → List ℕ → List ℕ → List Float → (ℕ → ℕ → ℕ) → ℕ → Lists → Lists
add_row f n rule rows cols element entry a old = iterate (add_pair f n rule rows cols element entry a) 0 (length cols) old

-- every row node
unfoldable pub add_all : Format → ℕ → Rule → List ℕ → List ℕ → List Float → (ℕ → ℕ → ℕ) → Lists → Lists
add_all f n rule rows cols element entry old = iterate (add_row f n rule rows cols element entry) 0 (length rows) old

-- with the entries of a pattern
abbrev pub assembled : Format → ℕ → Rule → List ℕ → List ℕ → List Float → List ℕ → List ℕ → Lists → Lists
assembled f n rule rows cols element offsets columns old = add_all f n rule rows cols element (entry_at rows cols offsets columns) old

-- what each call leaves: one list of nodes is both rows and columns of `merge`
abbrev pub merged : Format → ℕ → List ℕ → List Float → List ℕ → List ℕ → Lists → Lists
merged f n nodes element offsets columns old = assembled f n Place nodes nodes element offsets columns old

abbrev pub csrdia_of : Format → List ℕ → List ℕ → List Float → List ℕ → List ℕ → Lists → Lists
csrdia_of f rows cols element offsets columns old = assembled f 1 Number rows cols element offsets columns old

-- `blkcsr` has no diagonal
abbrev pub blkcsr_of : Format → ℕ → List ℕ → List ℕ → List Float → List ℕ → List ℕ → List Float → List Float
blkcsr_of f n rows cols element offsets columns old = (assembled f n Never rows cols element offsets columns ([], old)).1
