-- Document 01's `solve_preconditioning_vec`, at any format f and any N: "forward then backward, as the Rust".
-- Definitions only.
use Rattle.std.specs.Prelude.{List, ℕ, ◌+◌, ◌-◌, ◌*◌, get_or, Float}
use Rattle.std.specs.Float.{Format}
use Rattle.base.specs.Iterate.{iterate}
use Rattle.blocks.specs.Block.{applied, subtracted}
use Rattle.blocks.specs.Lent.{block_at, vector_at, put_at}
use Rattle.patterns.specs.Pattern.{rows_of}
use Rattle.factors.specs.Factor.{FactorPattern, FactorValues}

-- a row's value r, less entry e times the row of x that its column names
unfoldable pub less_entry : Format → ℕ → List ℕ → List Float → List Float → ℕ → List Float → List Float
less_entry f n columns values x e r = subtracted f n r (applied f n (block_at n values e) (vector_at n x (get_or columns e 0)))

-- the entries from place a to below b, in stored order
unfoldable pub less_entries : Format → ℕ → List ℕ → List Float → List Float → ℕ → ℕ → List Float → List Float
unfolding less_entry
less_entries f n columns values x a b r = iterate (less_entry f n columns values x) a b r

-- forward: row i less its lower entries, then multiplied by the pivot's block
unfoldable pub forward_row : Format → ℕ → FactorPattern → FactorValues → ℕ → List Float → List Float
unfolding less_entries
forward_row f n t s i x =
    put_at (n * i) (applied f n (block_at n s.diagonal i) (less_entries f n t.columns s.values x (get_or t.offsets i 0) (get_or t.splits i 0) (vector_at n x i))) x

-- backward: row i less its upper entries
unfoldable pub backward_row : Format → ℕ → FactorPattern → FactorValues → ℕ → List Float → List Float
unfolding less_entries
backward_row f n t s i x = put_at (n * i) (less_entries f n t.columns s.values x (get_or t.splits i 0) (get_or t.offsets (i + 1) 0) (vector_at n x i)) x

-- all rows rising, then all rows falling
unfoldable pub solve : Format → ℕ → FactorPattern → FactorValues → List Float → List Float
unfolding forward_row backward_row
solve f n t s x =
    let rows = rows_of t.offsets in
    iterate (λ k. backward_row f n t s (rows - 1 - k)) 0 rows (iterate (forward_row f n t s) 0 rows x)
