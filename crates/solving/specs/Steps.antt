-- The solve in the steps of its loops, where the columns of a row are a part of their own: for the promises of the functions inside. No public promise cites these.
-- Definitions only.
use Rattle.std.specs.Prelude.{List, ℕ, ◌+◌, ◌-◌, ◌*◌, length, get_or, Float}
use Rattle.std.specs.Float.{Format}
use Rattle.base.specs.Iterate.{iterate}
use Rattle.blocks.specs.Block.{applied, subtracted}
use Rattle.blocks.specs.Lent.{block_at, vector_at, put_at}
use Rattle.patterns.specs.Pattern.{rows_of}
use Rattle.factors.specs.Factor.{FactorPattern, FactorValues}
use Rattle.factors.specs.Solve.{forward_row, backward_row}

-- a row's value r, less block e of the values times row j of x
unfoldable pub less_product : Format → ℕ → List Float → ℕ → List Float → ℕ → List Float → List Float
less_product f n values e x j r = subtracted f n r (applied f n (block_at n values e) (vector_at n x j))

-- entry k of a part whose first entry is `first`
unfoldable pub less_at : Format → ℕ → List ℕ → ℕ → List Float → List Float → ℕ → List Float → List Float
less_at f n part first values x k r = less_product f n values (first + k) x (get_or part k 0) r

-- the entries of a part in stored order
unfoldable pub less_part : Format → ℕ → List ℕ → ℕ → List Float → List Float → List Float → List Float
less_part f n part first values x r = iterate (less_at f n part first values x) 0 (length part) r

-- x, with row i less its lower entries and then multiplied by the pivot's block
unfoldable pub forward_part : Format → ℕ → List ℕ → ℕ → List Float → List Float → ℕ → List Float → List Float
forward_part f n part first diagonal values i x =
    put_at (n * i) (applied f n (block_at n diagonal i) (less_part f n part first values x (vector_at n x i))) x

-- x, with row i less its upper entries
unfoldable pub backward_part : Format → ℕ → List ℕ → ℕ → List Float → ℕ → List Float → List Float
backward_part f n part first values i x = put_at (n * i) (less_part f n part first values x (vector_at n x i)) x

-- all rows rising
unfoldable pub forward_rows : Format → ℕ → FactorPattern → FactorValues → List Float → List Float
forward_rows f n t s x = iterate (forward_row f n t s) 0 (rows_of t.offsets) x

-- all rows falling
unfoldable pub backward_rows : Format → ℕ → FactorPattern → FactorValues → List Float → List Float
backward_rows f n t s x = iterate (λ k. backward_row f n t s (rows_of t.offsets - 1 - k)) 0 (rows_of t.offsets) x
