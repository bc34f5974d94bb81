-- Blocks and vectors in a lent slice: which values of the slice a block or a row is, and the slice with some of its values replaced.
-- Definitions only.
use Rattle.std.specs.Prelude.{List, ℕ, ◌+◌, ◌*◌, length, get_or, Float}
use Rattle.std.proofs.Math.Seq.{paste}
use Rattle.std.specs.Float.{nan}
use Rattle.blocks.specs.Block.{listed}

-- the m values from place p on
abbrev pub values_at : ℕ → List Float → ℕ → List Float
values_at m values p = listed m (λ k. get_or values (p + k) nan)

-- block e has N * N values, and the blocks stand one after the other
abbrev pub block_at : ℕ → List Float → ℕ → List Float
block_at n values e = values_at (n * n) values (n * n * e)

-- row i of a vector has N values
abbrev pub vector_at : ℕ → List Float → ℕ → List Float
vector_at n values i = values_at n values (n * i)

-- the slice with the new values in place p and after it, and all else as it was
unfoldable pub put_at : ℕ → List Float → List Float → List Float
put_at p new values = paste values p new (length new)
