-- What the functions of the crate that check nothing ask of lengths, patterns and places. No public promise cites these.
-- Definitions only.
use Rattle.std.specs.Prelude.{◌≡◌, Bool, true, false, cond, List, ℕ, ◌+◌, ◌*◌, ◌≤◌, ◌<◌, length, get_or}
use Rattle.answers.specs.Limits.{is_place}
use Rattle.lent.specs.Steps.{Dim, Within}
use Rattle.patterns.specs.Pattern.{rows_of, all_below, valid_entries}
use Rattle.patterns.specs.Checks.{too_large}
use Rattle.rows.specs.Lookup.{no_place}
use Rattle.elements.specs.declared.unchecked.Rule.{Rule}
use Rattle.elements.specs.Pairs.{to_diagonal, place_of, entry_of, entry_at}

-- a valid pattern that is not too large
pub record PatternFits (offsets columns : List ℕ) : Type 0 where
  pub sized : too_large (length offsets) (length columns) ≡ false
  pub valid : valid_entries offsets columns ≡ true

-- the entry of row i with column j, or "no place" if there is none
unfoldable pub entry_or_none : List ℕ → List ℕ → ℕ → ℕ → ℕ
entry_or_none offsets columns i j = cond (is_place (place_of offsets columns i j)) (entry_of offsets columns i j) no_place

-- the entry that is kept for a pair: there is room for 8 column nodes to a row node
abbrev pub kept_at : List ℕ → ℕ → ℕ → ℕ
kept_at places a b = get_or places (8 * a + b) 0

-- each pair whose place in that room is before `upto` has its entry there, if it goes to one
pub record Placed (rule : Rule) (rows cols offsets columns : List ℕ) (upto : ℕ) (places : List ℕ) : Type 0 where
  pub room : length places ≡ 64
  pub kept : (a b : ℕ) → b < length cols → 8 * a + b < upto → to_diagonal rule rows cols a b ≡ false → kept_at places a b ≡ entry_at rows cols offsets columns a b

-- what looking up some pairs leaves: whether all are stored, and if so their entries
pub record Finding (rule : Rule) (rows cols offsets columns : List ℕ) (stored : Bool) (upto : ℕ) (found : Bool) (places : List ℕ) : Type 0 where
  pub told : found ≡ stored
  pub kept : found ≡ true → Placed rule rows cols offsets columns upto places

-- what finding asks: a valid pattern, and nodes that are rows of it
pub record FindFits (rows cols offsets columns : List ℕ) : Type 0 where
  pub few : length rows ≤ 8
  pub alike : length cols ≡ length rows
  pub pattern : PatternFits offsets columns
  pub inside : all_below (rows_of offsets) rows ≡ true

-- what adding asks: each pair's block of the element is there, and the block that it is added to
pub record AddFits (n : ℕ) (rule : Rule) (rows cols : List ℕ) (entry : ℕ → ℕ → ℕ) (element diagonal values : ℕ) : Type 0 where
  pub dim : Dim n
  pub few : length rows ≤ 8
  pub alike : length cols ≡ length rows
  pub of_element : element ≡ length rows * length rows * (n * n)
  pub of_diagonal : (a b : ℕ) → a < length rows → b < length rows → to_diagonal rule rows cols a b ≡ true → Within (n * n) (get_or rows a 0) diagonal
  pub of_values : (a b : ℕ) → a < length rows → b < length rows → to_diagonal rule rows cols a b ≡ false → Within (n * n) (entry a b) values

-- what an assembly asks: a valid pattern and lengths that fit; the diagonal is asked for only if a pair goes there
pub record AssemblyFits (n : ℕ) (rule : Rule) (rows cols : List ℕ) (element : ℕ) (offsets columns : List ℕ) (diagonal values : ℕ) : Type 0 where
  pub dim : Dim n
  pub few : length rows ≤ 8
  pub alike : length cols ≡ length rows
  pub of_element : element ≡ length rows * length rows * (n * n)
  pub pattern : PatternFits offsets columns
  pub of_values : values ≡ n * n * length columns
  pub of_diagonal : (a b : ℕ) → to_diagonal rule rows cols a b ≡ true → diagonal ≡ n * n * rows_of offsets
