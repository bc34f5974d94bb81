-- The work on one upper entry, for every N at once: the operands are read, the product is made and put in its place.
-- Assumes nothing.
use mathlib.Core.Path.{◌≡◌, ap, ◌∙◌}
use mathlib.Core.List.{List}
use Prim.Native.Nat.{ℕ, ◌*◌}
use lib.Ieee.{Float, Format}
use Rattle.blocks.specs.Block.{product}
use Rattle.blocks.specs.Lent.{block_at, put_at}
use Rattle.factors.specs.Factor.{multiply_entry}
use Rattle.reducing.specs.Lent.{factor_of}

module _ (f : Format) (n : ℕ) where
  pub joined_multiply : (diagonal values : List Float) (i g : ℕ) (x y p z : List Float) → x ≡ block_at n diagonal i → y ≡ block_at n values g
      → p ≡ product f n x y → z ≡ put_at (n * n * g) p values → factor_of diagonal z ≡ multiply_entry f n i g (factor_of diagonal values)
  unfolding multiply_entry
  joined_multiply diagonal values i g x y p z ex ey ep ez =
      ap (factor_of diagonal) (ez ∙ ap (λ (l : List Float). put_at (n * n * g) l values)
      (ep ∙ ap (λ (l : List Float). product f n l y) ex ∙ ap (product f n (block_at n diagonal i)) ey))
