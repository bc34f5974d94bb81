-- Blocks by their elements, for every N at once: what stands at a place of a block, a block that is its own elements, and a part that is put back where it was.
-- Assumes nothing.
use mathlib.Core.Path.{◌≡◌, sym, ap, ◌∙◌}
use mathlib.Core.List.{List}
use Prim.Native.Nat.{ℕ, zero, suc, ◌+◌, ◌*◌, ◌/◌, ◌%◌, ◌≤◌, ◌<◌}
use native.Mathlib.Nat.{mul-le-mul_left, mod-lt, mod-eq_of_lt, div-eq_of_lt, mod-add-div, add-mul-mod_self_left, add-mul-div_left, div-lt_iff_lt-mul}
use native.Mathlib.Omega.{arith}
use lib.ListN.{length, get_or, take, drop, take-append-drop}
use lib.Seq.{take-add, take-length}
use lib.Ieee.{Float, nan}
use Rattle.blocks.specs.Block.{listed, element, block_of}
use Rattle.blocks.specs.Lent.{values_at, put_at}
use Rattle.blocks.proofs.LentLaws.{values_part}
use Rattle.blocks.proofs.ListedLaws.{length_listed, listed_at, listed_same}

-- a place of a block has its row and its column
module _ (n j : ℕ) (below : j < n * n) where
  some : 0 < n
  some = some_of n below
    where
      some_of : (n : ℕ) → j < n * n → 0 < n
      some_of zero h = absurd (omega (arith, h))
      some_of (suc n) h = omega arith

  pub row_below : j % n < n
  row_below = mod-lt j some

  pub column_below : j / n < n
  column_below = (div-lt_iff_lt-mul {k = n} {x = j} {y = n} some).1 below

-- element (r, c) of the block of g is g r c
pub element_of : (n : ℕ) (g : ℕ → ℕ → Float) (r c : ℕ) → r < n → c < n → element n (block_of n g) r c ≡ g r c
element_of n g r c row column =
    let inside : r + n * c < n * n = omega (arith, mul-le-mul_left n column) in
    let across : (r + n * c) % n ≡ r = add-mul-mod_self_left r n c ∙ mod-eq_of_lt row in
    let down : (r + n * c) / n ≡ c = add-mul-div_left r c (omega arith) ∙ omega (arith, div-eq_of_lt row) in
    listed_at (n * n) (λ j. g (j % n) (j / n)) (r + n * c) inside ∙ rw (across, down)

-- a block whose elements are those of a list of N * N values is that list
pub block_same : (n : ℕ) (g : ℕ → ℕ → Float) (v : ℕ → Float) → ((r c : ℕ) → r < n → c < n → g r c ≡ element n (listed (n * n) v) r c)
    → block_of n g ≡ listed (n * n) v
block_same n g v same =
    listed_same (n * n) (λ j. g (j % n) (j / n)) v
    (λ j l. same (j % n) (j / n) (row_below n j l) (column_below n j l) ∙ ap (λ (k : ℕ). get_or (listed (n * n) v) k nan) (mod-add-div j n) ∙ listed_at (n * n) v j l)

-- a block whose values are made anew, each from its place
pub anew : (n : ℕ) (h : ℕ → ℕ → Float → Float) (a : List Float) → listed (n * n) (λ k. h (k % n) (k / n) (get_or a k nan)) ≡ block_of n (λ r c. h r c (element n a r c))
anew n h a =
    listed_same (n * n) (λ k. h (k % n) (k / n) (get_or a k nan)) (λ k. h (k % n) (k / n) (element n a (k % n) (k / n)))
    (λ k l. ap (λ (j : ℕ). h (k % n) (k / n) (get_or a j nan)) (sym (mod-add-div k n)))

-- what stood at a place is put back there
pub put_back : (m p : ℕ) (values : List Float) → p + m ≤ length values → put_at p (values_at m values p) values ≡ values
unfolding put_at
put_back m p values fits =
    let long : length (values_at m values p) ≡ m = length_listed m (λ k. get_or values (p + k) nan) in
    let part : values_at m values p ≡ take m (drop p values) = values_part m values p fits in
    let whole : take m (values_at m values p) ≡ values_at m values p = rw long at (take-length (values_at m values p)) in
    rw (long, whole, part, ← take-add p m values) (take-append-drop (p + m) values)
