-- Document 01's `decompose`, at any format f and any N: "for each row, for lower entries (i,p) in order, for upper entries (p,j): the product is taken
-- from (i,j), or from the diagonal, or dropped if (i,j) is absent; then the pivot is inverted and upper entries multiplied by it from the left". Definitions only.
use Rattle.std.specs.Prelude.{List, Bool, cond, ℕ, zero, suc, ◌+◌, ◌*◌, eqb, length, get_or, Float}
use Rattle.std.proofs.Math.Option.{Option, none, some}
use Rattle.std.specs.Float.{Format}
use Rattle.base.specs.Iterate.{iterate}
use Rattle.blocks.specs.Block.{product, subtracted}
use Rattle.blocks.specs.Inverse.{inverse, singular}
use Rattle.blocks.specs.Lent.{block_at, put_at}
use Rattle.patterns.specs.Pattern.{rows_of, row_of}
use Rattle.rows.specs.Lookup.{no_place, place_in}

-- the pattern of a factor: its offsets, columns and splits
pub record FactorPattern : Type 0 where
  pub offsets : List ℕ
  pub columns : List ℕ
  pub splits : List ℕ

-- its values: a block to each row of the diagonal, and a block to each entry
pub record FactorValues : Type 0 where
  pub diagonal : List Float
  pub values : List Float

-- block w less another block
unfoldable pub less_block : Format → ℕ → ℕ → List Float → List Float → List Float
less_block f n w block values = put_at (n * n * w) (subtracted f (n * n) (block_at n values w) block) values

-- a block is taken from (i, j): from the diagonal if j is i, from the entry if row i has it, and else it is dropped
unfoldable pub take_from : Format → ℕ → FactorPattern → ℕ → ℕ → List Float → FactorValues → FactorValues
unfolding less_block
take_from f n t i j block s =
    let place = place_in (row_of t.offsets t.columns i) j in
    cond (eqb j i) (record { diagonal = less_block f n i block s.diagonal; values = s.values })
    (cond (eqb place no_place) s (record { diagonal = s.diagonal; values = less_block f n (get_or t.offsets i 0 + place) block s.values }))

-- entry e is (i, p) and entry g is (p, j): their product is taken from (i, j)
unfoldable pub take_product : Format → ℕ → FactorPattern → ℕ → ℕ → ℕ → FactorValues → FactorValues
unfolding take_from
take_product f n t i e g s = take_from f n t i (get_or t.columns g 0) (product f n (block_at n s.values e) (block_at n s.values g)) s

-- the upper entries (p, j) in order, where entry e is (i, p)
unfoldable pub take_pivot : Format → ℕ → FactorPattern → ℕ → ℕ → FactorValues → FactorValues
unfolding take_product
take_pivot f n t i e s =
    let p = get_or t.columns e 0 in
    iterate (take_product f n t i e) (get_or t.splits p 0) (get_or t.offsets (p + 1) 0) s

-- the lower entries of row i in order
unfoldable pub reduce_row : Format → ℕ → FactorPattern → ℕ → FactorValues → FactorValues
unfolding take_pivot
reduce_row f n t i s = iterate (take_pivot f n t i) (get_or t.offsets i 0) (get_or t.splits i 0) s

-- the pivot of row i is inverted
unfoldable pub invert_pivot : Format → ℕ → ℕ → FactorValues → FactorValues
invert_pivot f n i s = record { diagonal = put_at (n * n * i) (inverse f n (block_at n s.diagonal i)) s.diagonal; values = s.values }

-- entry g is multiplied from the left by the block of row i
unfoldable pub multiply_entry : Format → ℕ → ℕ → ℕ → FactorValues → FactorValues
multiply_entry f n i g s = record { diagonal = s.diagonal; values = put_at (n * n * g) (product f n (block_at n s.diagonal i) (block_at n s.values g)) s.values }

-- and so are the upper entries of row i
unfoldable pub finish_row : Format → ℕ → FactorPattern → ℕ → FactorValues → FactorValues
unfolding invert_pivot multiply_entry
finish_row f n t i s = iterate (multiply_entry f n i) (get_or t.splits i 0) (get_or t.offsets (i + 1) 0) (invert_pivot f n i s)

-- what is left, and the row whose pivot can't be inverted, if there is one
pub record Decomposed : Type 0 where
  pub left : FactorValues
  pub stopped : Option ℕ

-- d rows from row i on. At a pivot that can't be inverted it stops: earlier rows are finished, this one is reduced, later ones are as given
unfoldable pub decompose_from : Format → ℕ → FactorPattern → ℕ → ℕ → FactorValues → Decomposed
unfolding reduce_row finish_row
decompose_from f n t i zero s = record { left = s; stopped = none }
decompose_from f n t i (suc d) s =
    let reduced = reduce_row f n t i s in
    cond (singular f n (block_at n reduced.diagonal i)) (record { left = reduced; stopped = some i })
    (decompose_from f n t (suc i) d (finish_row f n t i reduced))

-- all rows
unfoldable pub decompose : Format → ℕ → FactorPattern → FactorValues → Decomposed
unfolding decompose_from
decompose f n t s = decompose_from f n t 0 (rows_of t.offsets) s
