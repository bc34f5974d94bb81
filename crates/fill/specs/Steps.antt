-- What each step of `initialize_iluk` does to the lent words: for the promises of the functions inside. No public promise cites these.
-- Definitions only.
use Rattle.std.specs.Prelude.{◌≡◌, List, [], ◌∷◌, ◌++◌, Bool, true, not, ◌&&◌, cond, ℕ, zero, suc, ◌+◌, ◌-◌, ◌≤◌, ◌<◌, min, max, ltb, leb, eqb, length, get_or, set, take, drop, replicate}
use Rattle.std.proofs.Math.Option.{Option, none, some}
use Rattle.base.specs.Each.{each_to}
use Rattle.patterns.specs.Pattern.{rows_of, valid_pattern}
use Rattle.base.specs.Iterate.{iterate}
use Rattle.walks.specs.Levels.{Pattern, level_below, level_of}
use Rattle.fill.specs.Fill.{stored, columns_from, levels_from, fill_columns, fill_levels, start_of, split_at, listed}

-- a word of the row: 0 is no level, l + 1 is the level l
abbrev pub level_in : ℕ → Option ℕ
level_in zero = none
level_in (suc l) = some l

-- the levels that a row's words say
abbrev pub levels_in : List ℕ → ℕ → Option ℕ
levels_in row j = level_in (get_or row j 0)

-- the level of (i, j) by its entry and the rows below p, and below both
unfoldable pub level_up_to : Pattern → ℕ → ℕ → ℕ → ℕ → Option ℕ
level_up_to A k p i j = cond (eqb i j) none (level_below A k (min p (min i j)) i j)

-- the row's words say the levels of row i by its entries and the rows below p
pub record Levelled (A : Pattern) (k n p i : ℕ) (row : List ℕ) : Type 0 where
  pub long : length row ≡ n
  pub at : (j : ℕ) → j < n → levels_in row j ≡ level_up_to A k p i j

-- the lesser of two words, where 0 is none
abbrev pub least : ℕ → ℕ → ℕ
least zero w = w
least (suc v) w = min (suc v) w

-- the pivot's entry at column c, of level l, is taken to row i, where the level of (i, p) is a
unfoldable pub spread_one : ℕ → ℕ → ℕ → ℕ → ℕ → List ℕ → List ℕ
spread_one k i a c l row = cond (ltb l k && not (eqb c i)) (set row c (least (get_or row c 0) (max a l + 2))) row

-- all of its entries
unfoldable pub spread_all : ℕ → ℕ → ℕ → List ℕ → List ℕ → List ℕ → List ℕ
unfolding spread_one
spread_all k i a [] ls row = row
spread_all k i a (c ∷ cs) [] row = row
spread_all k i a (c ∷ cs) (l ∷ ls) row = spread_all k i a cs ls (spread_one k i a c l row)

-- an entry of A has level 0
unfoldable pub load_one : List ℕ → ℕ → List ℕ → List ℕ
load_one cs e row = set row (get_or cs e 0) 1

unfoldable pub loaded : List ℕ → List ℕ → List ℕ
unfolding load_one
loaded cs row = iterate (load_one cs) 0 (length cs) row

-- l written over the first words of s
unfoldable pub over : List ℕ → List ℕ → List ℕ
over l s = l ++ drop (length l) s

-- the upper part of row p stands at s .. e of the columns and the levels
pub record Upper (A : Pattern) (k n p s e : ℕ) (cs ls : List ℕ) : Type 0 where
  pub ordered : s ≤ e
  pub in_columns : e ≤ length cs
  pub in_levels : e ≤ length ls
  pub columns : take (e - s) (drop s cs) ≡ columns_from (level_of A k p) (p + 1) (n - (p + 1))
  pub levels : take (e - s) (drop s ls) ≡ levels_from (level_of A k p) (p + 1) (n - (p + 1))

-- the rows before i are written
pub record Written (A : Pattern) (k n i : ℕ) (o cs ss ls : List ℕ) : Type 0 where
  pub offsets_long : length o ≡ n + 1
  pub splits_long : length ss ≡ n
  pub upper : (p : ℕ) → p < i → Upper A k n p (get_or ss p 0) (get_or o (p + 1) 0) cs ls

-- the pivot p, whose upper part stands at s .. e
unfoldable pub pivot_step : ℕ → ℕ → ℕ → ℕ → ℕ → List ℕ → List ℕ → List ℕ → List ℕ
unfolding spread_all
pivot_step k i p s e cs ls row =
    cond (eqb (get_or row p 0) 0) row
    (cond (ltb (get_or row p 0 - 1) k) (spread_all k i (get_or row p 0 - 1) (take (e - s) (drop s cs)) (take (e - s) (drop s ls)) row) row)

pub record PivotFits (p : ℕ) (row : List ℕ) (s e : ℕ) (cs ls : List ℕ) : Type 0 where
  pub in_row : p < length row
  pub ordered : s ≤ e
  pub in_columns : e ≤ length cs
  pub in_levels : e ≤ length ls
  pub below : (x : ℕ) → x < length (take (e - s) (drop s cs)) → get_or (take (e - s) (drop s cs)) x 0 < length row
  pub small : get_or row p 0 ≤ 65536

-- The marks of a row lie from low on and below high.
pub record Within (low high : ℕ) (row : List ℕ) : Type 0 where
  pub before : (j : ℕ) → j < low → get_or row j 0 ≡ 0
  pub after : (j : ℕ) → high ≤ j → get_or row j 0 ≡ 0

-- so do the first m columns of a list
abbrev pub Spans : ℕ → ℕ → List ℕ → ℕ → Type 0
Spans low high cs m = (x : ℕ) → x < m → (low ≤ get_or cs x 0) × (get_or cs x 0 < high)

-- the end of a span that takes in the last of rising columns
unfoldable pub end_of : List ℕ → ℕ → ℕ
end_of cs high = cond (eqb (length cs) 0) high (max high (get_or cs (length cs - 1) 0 + 1))

-- the end of the row's span after the pivot p
unfoldable pub pivot_high : ℕ → ℕ → ℕ → ℕ → List ℕ → List ℕ → ℕ → ℕ
unfolding end_of
pivot_high k p s e cs row high =
    cond (eqb (get_or row p 0) 0) high (cond (ltb (get_or row p 0 - 1) k) (end_of (take (e - s) (drop s cs)) high) high)

-- row i of A can be loaded: A is valid, and the row is clear
pub record Loadable (ao ac : List ℕ) (i : ℕ) (row : List ℕ) : Type 0 where
  pub rows : rows_of ao ≡ length row
  pub valid : valid_pattern ao ac ≡ true
  pub in_row : i < length row
  pub few : length row ≤ 65536
  pub clear : row ≡ replicate (length row) 0

-- and worked, since the rows before it are written
pub record RowReady (ao ac : List ℕ) (k i : ℕ) (row o cs ss ls : List ℕ) : Type 0 where
  pub loadable : Loadable ao ac i row
  pub written : Written (stored ao ac) k (length row) i o cs ss ls

-- row i of A is loaded, and its marks lie within a span
pub record Started (A : Pattern) (n i low high : ℕ) (row : List ℕ) : Type 0 where
  pub levelled : (k : ℕ) → Levelled A k n 0 i row
  pub within : Within low high row
  pub ordered : low ≤ high
  pub in_row : high ≤ n

-- all pivots have given row i what they give
pub record Worked (A : Pattern) (k n i low high : ℕ) (row : List ℕ) : Type 0 where
  pub levelled : Levelled A k n i i row
  pub within : Within low high row
  pub ordered : low ≤ high
  pub in_row : high ≤ n

-- row i can be written at `at`, and has `all` marks within a span
pub record PutFits (i at all low high : ℕ) (o cs ss ls row : List ℕ) : Type 0 where
  pub in_row : i < length row
  pub few : length row ≤ 65536
  pub offsets_long : length o ≡ length row + 1
  pub splits_long : length ss ≡ length row
  pub levels_long : length ls ≡ length cs
  pub room : length cs ≤ 65535
  pub small : (j : ℕ) → j < length row → get_or row j 0 ≤ j + 1
  pub within : Within low high row
  pub ordered : low ≤ high
  pub span_in_row : high ≤ length row
  pub all_is : all ≡ length (columns_from (levels_in row) 0 (length row))
  pub fits : at + all ≤ length cs

-- l written over s from `at` on
unfoldable pub put : ℕ → List ℕ → List ℕ → List ℕ
unfolding over
put at l s = take at s ++ over l (drop at s)

-- the rows before i are done, and i of n rows have `at` entries
pub record Going (A : Pattern) (k n i at : ℕ) (o₀ cs₀ ss₀ ls₀ o cs ss ls row : List ℕ) : Type 0 where
  pub rows : i ≤ n
  pub offsets_long : length o₀ ≡ n + 1
  pub splits_long : length ss₀ ≡ n
  pub levels_long : length ls₀ ≡ length cs₀
  pub at_is : at ≡ start_of A k n i
  pub fits : at ≤ length cs₀
  pub offsets_are : o ≡ each_to (λ r _. start_of A k n r) (i + 1) o₀
  pub splits_are : ss ≡ each_to (λ r _. split_at A k n r) i ss₀
  pub columns_are : cs ≡ over (fill_columns A k n i) cs₀
  pub levels_are : ls ≡ over (fill_levels A k n i) ls₀
  pub clear : row ≡ replicate n 0

-- what the rows lent may be: A valid, the row clear, the lengths those of document 01
pub record Shaped (ao ac o cs ss ls row : List ℕ) : Type 0 where
  pub rows : rows_of ao ≡ length row
  pub valid : valid_pattern ao ac ≡ true
  pub few : length row ≤ 4096
  pub room : length cs ≤ 65535
  pub offsets_long : length o ≡ length row + 1
  pub splits_long : length ss ≡ length row
  pub levels_long : length ls ≡ length cs

-- what the loop over the rows may assume
pub record AllReady (n : ℕ) (ao ac o cs ss ls row : List ℕ) : Type 0 where
  pub rows : length row ≡ n
  pub shaped : Shaped ao ac o cs ss ls row
  pub clear : row ≡ replicate n 0

-- what it has written where all fits
pub record Result (A : Pattern) (k n : ℕ) (cs₀ ls₀ o cs ss ls row : List ℕ) : Type 0 where
  pub offsets_are : o ≡ listed (start_of A k n) 0 (n + 1)
  pub splits_are : ss ≡ listed (split_at A k n) 0 n
  pub columns_are : cs ≡ over (fill_columns A k n n) cs₀
  pub levels_are : ls ≡ over (fill_levels A k n n) ls₀
  pub clear : row ≡ replicate n 0

pub record Filled (A : Pattern) (k n : ℕ) (cs₀ ls₀ : List ℕ) (r : Bool) (o cs ss ls row : List ℕ) : Type 0 where
  pub answer : r ≡ leb (start_of A k n n) (length cs₀)
  pub done : r ≡ true → Result A k n cs₀ ls₀ o cs ss ls row

-- all lent words after the call, r telling whether the entries fit the room
pub record Whole (A : Pattern) (k n room : ℕ) (r : Bool) (o cs ss ls row : List ℕ) : Type 0 where
  pub answer : r ≡ leb (start_of A k n n) room
  pub offsets : o ≡ cond r (listed (start_of A k n) 0 (n + 1)) (replicate (n + 1) 0)
  pub columns : cs ≡ cond r (fill_columns A k n n ++ replicate (room - start_of A k n n) 0) (replicate room 0)
  pub splits : ss ≡ cond r (listed (split_at A k n) 0 n) (replicate n 0)
  pub levels : ls ≡ replicate room 0
  pub row_clear : row ≡ replicate n 0
