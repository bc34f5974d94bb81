-- The work on one product, for every N at once: the operands are read, the result is made, and the result is put in its place.
-- Assumes nothing.
use mathlib.Core.Path.{◌≡◌, ap, ◌∙◌}
use mathlib.Core.List.{List}
use Prim.Native.Nat.{ℕ, ◌+◌, ◌*◌}
use lib.ListN.{get_or}
use lib.Ieee.{Float, Format}
use borrow.Author.Tests.{eq-eqb, ne_eqb}
use Rattle.blocks.specs.Block.{product, subtracted}
use Rattle.blocks.specs.Lent.{block_at, put_at}
use Rattle.rows.specs.Lookup.{no_place, place_in}
use Rattle.base.specs.Iterate.{iterate}
use Rattle.factors.specs.Factor.{FactorValues, less_block, take_from, take_product, take_pivot}
use Rattle.reducing.specs.Lent.{pattern_of, factor_of}
use Rattle.reducing.specs.Fits.{HandedOn}

module _ (f : Format) (n : ℕ) where
  pub joined_less : (w : ℕ) (a b out x y p z : List Float) → x ≡ block_at n out w → y ≡ product f n a b
      → p ≡ subtracted f (n * n) x y → z ≡ put_at (n * n * w) p out → z ≡ less_block f n w (product f n a b) out
  unfolding less_block
  joined_less w a b out x y p z ex ey ep ez =
      ez ∙ ap (λ (l : List Float). put_at (n * n * w) l out)
      (ep ∙ ap (λ (l : List Float). subtracted f (n * n) l y) ex ∙ ap (subtracted f (n * n) (block_at n out w)) ey)

-- The upper entries of the row that entry e leads to are those from its split to its end.
module _ (f : Format) (n : ℕ) (o cs ss : List ℕ) (i e : ℕ) where
  pub pivot_taken : (first end : ℕ) → first ≡ get_or ss (get_or cs e 0) 0 → end ≡ get_or o (get_or cs e 0 + 1) 0 → (old new : FactorValues)
      → new ≡ iterate (take_product f n (pattern_of o cs ss) i e) first end old → new ≡ take_pivot f n (pattern_of o cs ss) i e old
  unfolding take_pivot
  pivot_taken first end is_first is-end old new taken = rw (is_first, is-end) at taken

-- The product of entries e and g, in its three ways: it is taken from the diagonal, from the entry that is found, or from nothing.
module _ (f : Format) (n : ℕ) (o cs ss : List ℕ) (i : ℕ) (row : List ℕ) (from : ℕ) (on : HandedOn o cs i row from) (e g : ℕ) (diagonal values : List Float) where
  read : (x y : List Float) → x ≡ block_at n values e → y ≡ block_at n values g → product f n x y ≡ product f n (block_at n values e) (block_at n values g)
  read x y ex ey = ap (λ (l : List Float). product f n l y) ex ∙ ap (product f n (block_at n values e)) ey

  pub on_diagonal : get_or cs g 0 ≡ i → (x y z : List Float) → x ≡ block_at n values e → y ≡ block_at n values g → z ≡ less_block f n i (product f n x y) diagonal
      → factor_of z values ≡ take_product f n (pattern_of o cs ss) i e g (factor_of diagonal values)
  unfolding take_product take_from
  on_diagonal same x y z ex ey ez = rw (eq-eqb (get_or cs g 0) i same, ez, read x y ex ey)

  module _ (other : get_or cs g 0 ≡ i → ⊥) (place : ℕ) (is : place ≡ place_in row (get_or cs g 0)) where
    pub at_entry : (place ≡ no_place → ⊥) → (x y z : List Float) → x ≡ block_at n values e → y ≡ block_at n values g → z ≡ less_block f n (from + place) (product f n x y) values
        → factor_of diagonal z ≡ take_product f n (pattern_of o cs ss) i e g (factor_of diagonal values)
    unfolding take_product take_from
    at_entry there x y z ex ey ez =
        rw (ne_eqb (get_or cs g 0) i other, ← on.row_is, ← on.from_is, ← is, ne_eqb place no_place there, ez, read x y ex ey)

    pub dropped : place ≡ no_place → factor_of diagonal values ≡ take_product f n (pattern_of o cs ss) i e g (factor_of diagonal values)
    unfolding take_product take_from
    dropped absent = rw (ne_eqb (get_or cs g 0) i other, ← on.row_is, ← is, eq-eqb place no_place absent)
