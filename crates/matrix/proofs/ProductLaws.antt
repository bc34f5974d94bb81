-- The product in its steps, for every N at once.
-- Assumes nothing.
use mathlib.Core.Path.{◌≡◌, ap, ◌∙◌}
use mathlib.Core.List.{List}
use Prim.Native.Nat.{ℕ, ◌+◌, ◌-◌, ◌*◌}
use native.Mathlib.Omega.{arith}
use lib.Ieee.{Float, Format}
use Rattle.base.specs.Iterate.{steps, iterate}
use Rattle.blocks.specs.Block.{applied, scaled, added}
use Rattle.blocks.specs.Lent.{block_at, vector_at, put_at}
use Rattle.matrix.specs.Product.{add_product, add_entries, add_row}
use Rattle.matrix.specs.Steps.{scale_add_row_at}

-- a block and a row are read and multiplied, the product is scaled and added
pub joined_product : (f : Format) (n : ℕ) (alpha : Float) (values : List Float) (e : ℕ) (x : List Float) (j : ℕ) (t a v p s r : List Float)
    → a ≡ block_at n values e → v ≡ vector_at n x j → p ≡ applied f n a v → s ≡ scaled f n p alpha → r ≡ added f n t s
    → r ≡ add_product f n alpha values e x j t
unfolding add_product
joined_product f n alpha values e x j t a v p s r block row product scale sum =
    sum ∙ ap (added f n t) (scale ∙ ap (λ (q : List Float). scaled f n q alpha) (product ∙ ap (λ (b : List Float). applied f n b v) block ∙ ap (applied f n (block_at n values e)) row))

-- a row of y is read and scaled, the entries and the diagonal are added, and it is put back
pub joined_row : (f : Format) (n : ℕ) (beta alpha : Float) (row : List ℕ) (first : ℕ) (values diagonal x : List Float) (i : ℕ) (y t v u s z : List Float)
    → t ≡ vector_at n y i → v ≡ scaled f n t beta → u ≡ add_entries f n alpha row first values x v → s ≡ add_product f n alpha diagonal i x i u
    → z ≡ put_at (n * i) s y → z ≡ scale_add_row_at f n beta alpha row first values diagonal x i y
unfolding scale_add_row_at add_row
joined_row f n beta alpha row first values diagonal x i y t v u s z read scale entries all written =
    let old : v ≡ scaled f n (vector_at n y i) beta = scale ∙ ap (λ (q : List Float). scaled f n q beta) read in
    written ∙ ap (λ (w : List Float). put_at (n * i) w y) (all ∙ ap (add_product f n alpha diagonal i x i) (entries ∙ ap (add_entries f n alpha row first values x) old))

-- four steps after each other
pub four_more : {S : Type 0} (f : ℕ → S → S) (k : ℕ) (t one two three r : S) → one ≡ f k t → two ≡ f (k + 1) one → three ≡ f (k + 2) two → r ≡ f (k + 3) three
    → r ≡ iterate f k (k + 4) t
unfolding iterate steps
four_more f k t one two three r a b c d =
    let long : (k + 4) - k ≡ 4 = omega arith in
    let here : k + 0 ≡ k = omega arith in
    rw (long, here, ← a, ← b, ← c) d
