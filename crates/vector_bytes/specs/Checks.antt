-- What the vector calls refuse where N is a number and a lent slice has so many parts to a word, as bytes have: 1, then 2.
-- Definitions only.
use Rattle.std.specs.Prelude.{◌≡◌, List, [], ◌∷◌, Bool, false, not, ◌||◌, ℕ, ◌*◌, ◌%◌, eqb, ltb}
use Rattle.answers.specs.Checks.{Check, ◌when◌}
use Rattle.answers.specs.Limits.{rows_out_of_range, outside_of}

-- a lent slice: how many parts a word has, and how many parts there are
pub data Lent : Type 0 where
  -- of exactly N * n words
  words : ℕ → ℕ → Lent
  -- of N * n words or more, all of them whole
  long_words : ℕ → ℕ → Lent

-- some slice has not the parts of so many words
abbrev pub wrong_words : ℕ → List Lent → Bool
wrong_words count [] = false
wrong_words count (words each parts ∷ lent) = not (eqb parts (each * count)) || wrong_words count lent
wrong_words count (long_words each parts ∷ lent) = (ltb parts (each * count) || not (eqb (parts % each) 0)) || wrong_words count lent

-- the checks of a call: the rows, then N and the slices
abbrev pub call_checks : ℕ → ℕ → List Lent → List Check
call_checks n dim lent = (1 when rows_out_of_range n) ∷ (2 when (outside_of 1 3 dim || wrong_words (dim * n) lent)) ∷ []

-- n and N are in range, and each of three slices has the words of a vector
pub record Roomy (n dim x y z : ℕ) : Type 0 where
  pub rows : rows_out_of_range n ≡ false
  pub range : outside_of 1 3 dim ≡ false
  pub first : x ≡ dim * n
  pub second : y ≡ dim * n
  pub third : z ≡ dim * n
