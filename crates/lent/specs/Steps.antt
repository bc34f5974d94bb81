-- Block operations where the blocks lie in lent slices: block e of a slice, replaced by the result of an operation on blocks of other slices.
-- Each is at any format f and any N. Definitions only.
use Rattle.std.specs.Prelude.{◌≡◌, List, [], ◌∷◌, ◌++◌, cond, ℕ, zero, suc, ◌+◌, ◌*◌, ◌≤◌, take, drop, Float, Ok}
use Rattle.std.specs.Float.{Format}
use Rattle.base.specs.Iterate.{iterate}
use Rattle.answers.specs.Numbers.{Answer, number_of, values_of}
use Rattle.answers.specs.Checks.{first_of, ◌when◌}
use Rattle.blocks.specs.Block.{product, applied}
use Rattle.blocks.specs.Inverse.{inverse, singular}
use Rattle.blocks.specs.Lent.{block_at, vector_at, put_at}

-- N is 1, 2 or 3
pub record Dim (n : ℕ) : Type 0 where
  pub least : 1 ≤ n
  pub most : n ≤ 3

-- part i, of m values, lies within a slice of that length
abbrev pub Within : ℕ → ℕ → ℕ → Type 0
Within m i long = m * i + m ≤ long

-- block e: the product of block i of a and block j of b
unfoldable pub product_at : Format → ℕ → List Float → ℕ → List Float → ℕ → ℕ → List Float → List Float
product_at f n a i b j e out = put_at (n * n * e) (product f n (block_at n a i) (block_at n b j)) out

-- row e: block i of a times row j of x
unfoldable pub apply_at : Format → ℕ → List Float → ℕ → List Float → ℕ → ℕ → List Float → List Float
apply_at f n a i x j e out = put_at (n * e) (applied f n (block_at n a i) (vector_at n x j)) out

-- the inverse of a block, and the block as given where it has none
unfoldable pub inverse_or : Format → ℕ → List Float → List Float
inverse_or f n a = cond (singular f n a) a (inverse f n a)

-- block e: the inverse of block i of a, or that block
unfoldable pub inverse_at : Format → ℕ → List Float → ℕ → ℕ → List Float → List Float
inverse_at f n a i e out = put_at (n * n * e) (inverse_or f n (block_at n a i)) out

-- what an inverse answers: 9 with row 0 if the block is singular
pub record Inverting (f : Format) (n : ℕ) (a : List Float) (answer : Answer) : Type 0 where
  pub number : number_of answer ≡ first_of ((9 when singular f n a) ∷ [])
  pub row : values_of answer ≡ cond (singular f n a) (0 ∷ []) []

-- the first blocks of out, one after the other, from the blocks that stand at the same places in a and in b
unfoldable pub product_each : Format → ℕ → List Float → List Float → ℕ → List Float → List Float
product_each f n a b count out = iterate (λ k z. product_at f n a k b k k z) 0 count out

-- likewise the rows of out from the blocks of a and the rows of x
unfoldable pub apply_each : Format → ℕ → List Float → List Float → ℕ → List Float → List Float
apply_each f n a x count out = iterate (λ k z. apply_at f n a k x k k z) 0 count out

unfoldable pub inverse_each : Format → ℕ → List Float → ℕ → List Float → List Float
inverse_each f n a count out = iterate (λ k z. inverse_at f n a k k z) 0 count out

-- what the last of the inverses answers, and done if there is none
abbrev pub InvertingLast : Format → ℕ → List Float → ℕ → Answer → Type 0
InvertingLast f n a zero answer = answer ≡ Ok tt
InvertingLast f n a (suc k) answer = Inverting f n (block_at n a k) answer

-- part k of z, of m values, replaced by what op makes of part k of u and part k of v
unfoldable pub part_at : (List Float → List Float → List Float) → ℕ → List Float → List Float → ℕ → List Float → List Float
part_at op m u v k z = take (m * k) z ++ (op (take m (drop (m * k) u)) (take m (drop (m * k) v)) ++ drop m (drop (m * k) z))

-- the first parts of out, one after the other
unfoldable pub each_part : (List Float → List Float → List Float) → ℕ → List Float → List Float → ℕ → List Float → List Float
each_part op m u v count out = iterate (part_at op m u v) 0 count out
