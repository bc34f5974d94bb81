-- The block operations, by one name each: how many values they have at N, what they result in, and what they check.
-- Definitions only.
use Rattle.answers.specs.Numbers.{Answer}
use Rattle.std.specs.Prelude.{◌≡◌, List, [], ◌∷◌, ℕ, ◌*◌, Float}
use Rattle.std.specs.Float.{Format}
use Rattle.answers.specs.Numbers.{number_of, row_of}
use Rattle.answers.specs.Checks.{Check, first_of, ◌when◌}
use Rattle.blocks.specs.Block.{product, applied, scaled, added, subtracted}
use Rattle.blocks.specs.Inverse.{singular}
use Rattle.wire.specs.Bytes.{values_in, bytes_of}
use Rattle.lent.specs.Steps.{Dim, inverse_or}
use Rattle.outcomes.specs.Calls.{Lent, ◌bytes_for◌}
use Rattle.block_bytes.specs.declared.Operation.{Operation}
use Rattle.block_bytes.specs.declared.Operation.TheVariants.{Apply, Product, Scale, Add, Subtract, AddBlock, SubtractBlock, Inverse}

-- the values of the first operand: N of a vector, N * N of a block
abbrev pub first_count : Operation → ℕ → ℕ
first_count Apply n = n * n
first_count Product n = n * n
first_count Scale n = n
first_count Add n = n
first_count Subtract n = n
first_count AddBlock n = n * n
first_count SubtractBlock n = n * n
first_count Inverse n = n * n

-- those of the second operand, if there is one, and of the result
abbrev pub second_count : Operation → ℕ → ℕ
second_count Apply n = n
second_count Product n = n * n
second_count Scale n = n
second_count Add n = n
second_count Subtract n = n
second_count AddBlock n = n * n
second_count SubtractBlock n = n * n
second_count Inverse n = n * n

-- the result, of a scale with the factor s
abbrev pub result_of : Format → Operation → ℕ → Float → List Float → List Float → List Float
result_of f Apply n s x y = applied f n x y
result_of f Product n s x y = product f n x y
result_of f Scale n s x y = scaled f n x s
result_of f Add n s x y = added f n x y
result_of f Subtract n s x y = subtracted f n x y
result_of f AddBlock n s x y = added f (n * n) x y
result_of f SubtractBlock n s x y = subtracted f (n * n) x y
result_of f Inverse n s x y = inverse_or f n x

-- what is checked of the operand's values: only an inverse refuses, with 9
abbrev pub later_of : Format → Operation → ℕ → List Float → List Check
later_of f Apply n x = []
later_of f Product n x = []
later_of f Scale n x = []
later_of f Add n x = []
later_of f Subtract n x = []
later_of f AddBlock n x = []
later_of f SubtractBlock n x = []
later_of f Inverse n x = (9 when singular f n x) ∷ []

-- the lent slices, by their bytes
abbrev pub lent_of : Operation → ℕ → ℕ → ℕ → ℕ → List Lent
lent_of op n a b out = (a bytes_for first_count op n) ∷ (b bytes_for second_count op n) ∷ (out bytes_for second_count op n) ∷ []

-- N and the lengths are right: of the operands and of the result, k to a value
pub record Shaped (op : Operation) (n k x y z : ℕ) : Type 0 where
  pub dim : Dim n
  pub first : x ≡ k * first_count op n
  pub second : y ≡ k * second_count op n
  pub third : z ≡ k * second_count op n

-- an operation on values: what it leaves and what it answers
pub record Completed (f : Format) (op : Operation) (n : ℕ) (s : Float) (x y z : List Float) (answer : Answer) : Type 0 where
  pub number : number_of answer ≡ first_of (later_of f op n x)
  pub row : row_of answer ≡ 0
  pub left : z ≡ result_of f op n s x y

-- the same from bytes to bytes
pub record Written (f : Format) (op : Operation) (n : ℕ) (s : Float) (a b out : List ℕ) (answer : Answer) : Type 0 where
  pub number : number_of answer ≡ first_of (later_of f op n (values_in f a))
  pub row : row_of answer ≡ 0
  pub left : out ≡ bytes_of f (result_of f op n s (values_in f a) (values_in f b))
