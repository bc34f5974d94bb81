-- A row of the copy: each block by its lookup, or all of A's where both rows are the same.
-- Assumes nothing.
use mathlib.Core.Path.{◌≡◌, refl, sym, ap, ◌∙◌}
use mathlib.Core.List.{List}
use mathlib.Core.Bool.{Bool, true, false, cond}
use Prim.Native.Nat.{ℕ, ◌+◌, ◌*◌, ◌≤◌}
use native.Mathlib.Omega.{arith}
use lib.Dec.{eqb}
use lib.ListN.{length, get_or, take, drop}
use lib.Ieee.{Float, Format}
use borrow.Author.Tests.{ne_eqb}
use Rattle.base.specs.Iterate.{iterate}
use Rattle.base.proofs.Sizes.{part_fits}
use Rattle.blocks.specs.Block.{plus_zero}
use Rattle.blocks.specs.Lent.{block_at, put_at}
use Rattle.blocks.proofs.ListedLaws.{length_listed}
use Rattle.rows.specs.Lookup.{no_place, place_in}
use Rattle.rows.proofs.LookupLaws.{found_once, is_found}
use Rattle.factors.specs.Copy.{joined, zero_block, block_or_zero, copied_block, copied_row}
use Rattle.places.specs.Places.{Markable}
use Rattle.copy_rows.specs.Steps.{put_copied, CopyRow}
use Rattle.copy_rows.proofs.JoinLaws.{joined_same, put_all, blocks_part}

-- the block of a place that a lookup found, or of none, has N * N values
pub block_long : (f : Format) (n : ℕ) (values : List Float) (first place : ℕ) → length (block_or_zero f n values first place) ≡ n * n
unfolding block_or_zero
block_long f n values first place = go (eqb place no_place)
  where
    go : (b : Bool) → length (cond b (zero_block f n) (block_at n values (first + place))) ≡ n * n
    go true = length_listed (n * n) (λ k. plus_zero f)
    go false = length_listed (n * n) _

pub copied_long : (f : Format) (n : ℕ) (from : List ℕ) (first : ℕ) (values : List Float) (column : ℕ) → length (copied_block f n from first values column) ≡ n * n
unfolding copied_block
copied_long f n from first values column = block_long f n values first (place_in from column)

-- a place that a lookup found has its block
pub found_fits : (d : ℕ) (from : List ℕ) (column place first values : ℕ) → d * (first + length from) ≤ values → place ≡ place_in from column → (place ≡ no_place → ⊥)
    → d * (first + place) + d ≤ values
found_fits d from column place first values fits is some =
    let found = is_found from column place (sym is) (rw (ne_eqb place no_place some)) in
    part_fits d (first + place) (first + length from) values (omega (arith, found.below)) fits

-- a lookup, the block that it names, and where that is put
pub turn : (f : Format) (n : ℕ) (from : List ℕ) (first : ℕ) (values : List Float) (row : List ℕ) (p : ℕ) (out : List Float) (place : ℕ) (block z : List Float)
    → place ≡ place_in from (get_or row p 0) → block ≡ block_or_zero f n values first place → z ≡ put_at (n * n * p) block out → z ≡ put_copied f n from first values row p out
unfolding put_copied copied_block
turn f n from first values row p out place block z found read written =
    written ∙ ap (λ (b : List Float). put_at (n * n * p) b out) (read ∙ ap (block_or_zero f n values first) found)

-- all places make the row
pub row_done : (f : Format) (n : ℕ) (row from : List ℕ) (first : ℕ) (values old : List Float) → CopyRow n row from first (length values) (length old)
    → iterate (put_copied f n from first values row) 0 (length row) old ≡ copied_row f n from first values row
unfolding put_copied copied_row joined
row_done f n row from first values old fit =
    let none : n * n * 0 ≡ 0 = omega arith in
    put_all (n * n) (length row) (λ k. copied_block f n from first values (get_or row k 0)) (λ k h. copied_long f n from first values (get_or row k 0)) old 0 old
    (omega arith) (omega (arith, fit.room)) (rw none)

-- a row that is A's own has A's blocks
pub own_row : (f : Format) (n : ℕ) (row : List ℕ) (first : ℕ) (values : List Float) → Markable row → n * n * (first + length row) ≤ length values
    → copied_row f n row first values row ≡ take (n * n * length row) (drop (n * n * first) values)
unfolding copied_row copied_block block_or_zero
own_row f n row first values fit stored =
    joined_same (length row) _ (λ k. block_at n values (first + k))
    (λ k h. rw (found_once row (get_or row k 0) k fit.single h refl, ne_eqb k no_place (λ e. omega (arith, e, fit.few, h))))
    ∙ blocks_part n first (length row) values stored
