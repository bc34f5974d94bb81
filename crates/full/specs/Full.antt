-- The promise of `initialize_full`: "all other columns, offset i*(n-1), split i*n". Its number, and every lent word afterwards.
-- Definitions only.
use Rattle.answers.specs.Numbers.{Answer}
use Rattle.std.specs.Prelude.{◌≡◌, List, [], ◌∷◌, ◌++◌, ℕ, suc, ◌+◌, ◌-◌, ◌*◌, ltb, length, replicate}
use Rattle.answers.specs.Numbers.{number_of}
use Rattle.answers.specs.Checks.{Check, ◌when◌, first_of}
use Rattle.answers.specs.Limits.{rows_out_of_range}
use Rattle.fill.specs.Fill.{joined, listed}
use Rattle.fill.specs.Promise.{leaves, wrong_outputs}

-- the columns of row i: all n but i, rising
unfoldable pub others : ℕ → ℕ → List ℕ
unfolding listed
others n i = listed (λ c. c) 0 i ++ listed (λ c. c) (suc i) (n - suc i)

-- the columns of the rows before i
unfoldable pub full_columns : ℕ → ℕ → List ℕ
unfolding joined others
full_columns n = joined (others n)

unfoldable pub full_offsets : ℕ → List ℕ
unfolding listed
full_offsets n = listed (λ i. i * (n - 1)) 0 (n + 1)

unfoldable pub full_splits : ℕ → List ℕ
unfolding listed
full_splits n = listed (λ i. i * n) 0 n

-- 1, of n; 2; and 4: n rows of n - 1 entries outnumber the room
abbrev pub full_checks : ℕ → ℕ → ℕ → ℕ → List Check
full_checks n offsets columns splits =
    (1 when rows_out_of_range n) ∷ (2 when wrong_outputs n offsets columns splits) ∷ (4 when ltb columns (n * (n - 1))) ∷ []

-- The outputs hold all other columns of each row, with zeros past the last entry, their offsets and the splits.
pub record Complete (n : ℕ) (offsets columns splits : List ℕ) (answer : Answer) (offsets' columns' splits' : List ℕ) : Type 0 where
  pub number : number_of answer ≡ first_of (full_checks n (length offsets) (length columns) (length splits))
  pub offsets_are : offsets' ≡ leaves (number_of answer) (full_offsets n) offsets
  pub columns_are : columns' ≡ leaves (number_of answer) (full_columns n n ++ replicate (length columns - n * (n - 1)) 0) columns
  pub splits_are : splits' ≡ leaves (number_of answer) (full_splits n) splits
