-- What an assembly that fits gives to its parts: to looking up each pair, and to adding its block.
-- Assumes nothing.
use mathlib.Core.Path.{◌≡◌, refl}
use mathlib.Core.List.{List}
use mathlib.Core.Bool.{Bool, true, false, ◌||◌}
use Prim.Native.Nat.{ℕ, ◌+◌, ◌*◌, ◌≤◌, ◌<◌}
use native.Mathlib.Nat.{mul-le-mul_left, mul-le-mul_right}
use native.Mathlib.Omega.{arith}
use lib.ListN.{length, get_or}
use borrow.Author.Tests.{ltb-true}
use Rattle.base.proofs.All.{all_at}
use Rattle.base.proofs.Sizes.{part_fits, few_parts, square_pos}
use Rattle.answers.specs.Limits.{is_place}
use Rattle.lent.specs.Steps.{Within}
use Rattle.patterns.specs.Pattern.{rows_of, all_below}
use Rattle.elements.specs.declared.unchecked.Rule.{Rule}
use Rattle.elements.specs.Pairs.{to_diagonal, place_of, entry_at, is_stored, is_row_stored, are_stored}
use Rattle.elements.specs.Fits.{kept_at, Placed, FindFits, AddFits, AssemblyFits}
use Rattle.elements.proofs.EntryLaws.{entry_below}

-- a node that is a row
pub node_inside : (n : ℕ) (nodes : List ℕ) → all_below n nodes ≡ true → (a : ℕ) → a < length nodes → get_or nodes a 0 < n
unfolding all_below
node_inside n nodes inside a h = ltb-true _ _ (all_at (λ k. _) a (length nodes) inside h)

-- the block of a pair is one of the element's
pub pair_below : (m a b : ℕ) → a < m → b < m → m * a + b < m * m
pair_below m a b ha hb = omega (arith, mul-le-mul_left m ha)

module _ {n : ℕ} {rule : Rule} {rows cols : List ℕ} {entry : ℕ → ℕ → ℕ} {element diagonal values : ℕ} (fit : AddFits n rule rows cols entry element diagonal values) where
  pub pair_fits : (a b : ℕ) → a < length rows → b < length rows → Within (n * n) (length rows * a + b) element
  pair_fits a b ha hb =
      part_fits (n * n) (length rows * a + b) (length rows * length rows) element (pair_below (length rows) a b ha hb) (omega (arith, fit.of_element))

  -- so that its number is no larger than a length
  pub pair_small : (a b : ℕ) → a < length rows → b < length rows → length rows * a + b < element
  pair_small a b ha hb =
      let most : length rows * length rows ≤ element =
      few_parts (n * n) (length rows * length rows) element (square_pos n fit.dim.least) (omega (arith, fit.of_element)) in
      omega (arith, pair_below (length rows) a b ha hb)

  -- nor is that of its entry
  pub entry_small : (a b : ℕ) → a < length rows → b < length rows → to_diagonal rule rows cols a b ≡ false → entry a b < values
  entry_small a b ha hb apart = omega (arith, fit.of_values a b ha hb apart, mul-le-mul_right (entry a b) (square_pos n fit.dim.least), square_pos n fit.dim.least)

  -- lists of the same lengths fit
  pub same_lengths : (d v : ℕ) → d ≡ diagonal → v ≡ values → AddFits n rule rows cols entry element d v
  same_lengths d v p q = rw (p, q) fit

-- an entry that is asked for is stored
or_other : (a b : Bool) → (a || b) ≡ true → a ≡ false → b ≡ true
or_other true b either none = absurd (let z : ◌≡◌ {A = ℕ} 1 0 = cc in omega arith)
or_other false b either none = either

-- every pair
pub stored_at : (rule : Rule) (rows cols offsets columns : List ℕ) → are_stored rule rows cols offsets columns ≡ true
    → (a b : ℕ) → a < length rows → b < length cols → is_stored rule rows cols offsets columns a b ≡ true
unfolding are_stored is_row_stored
stored_at rule rows cols offsets columns all a b ha hb =
    all_at (is_stored rule rows cols offsets columns a) b (length cols) (all_at (is_row_stored rule rows cols offsets columns) a (length rows) all ha) hb

module _ {n : ℕ} {rule : Rule} {rows cols : List ℕ} {element : ℕ} {offsets columns : List ℕ} {diagonal values : ℕ}
    (fit : AssemblyFits n rule rows cols element offsets columns diagonal values) (inside : all_below (rows_of offsets) rows ≡ true) where
  pub find_fits : FindFits rows cols offsets columns
  find_fits = record { few = fit.few; alike = fit.alike; pattern = fit.pattern; inside = inside }

  module _ (all : are_stored rule rows cols offsets columns ≡ true) where
    -- the entry of a pair that goes to one
    entry_inside : (a b : ℕ) → a < length rows → b < length cols → to_diagonal rule rows cols a b ≡ false → entry_at rows cols offsets columns a b < length columns
    unfolding is_stored entry_at
    entry_inside a b ha hb apart =
        entry_below fit.pattern (get_or rows a 0) (node_inside (rows_of offsets) rows inside a ha) (get_or cols b 0) _ refl
        (or_other (to_diagonal rule rows cols a b) (is_place (place_of offsets columns (get_or rows a 0) (get_or cols b 0))) (stored_at rule rows cols offsets columns all a b ha hb) apart)

    -- what is kept for it
    module _ (places : List ℕ) (kept : Placed rule rows cols offsets columns (8 * length rows) places) where
      pub kept_is : (a b : ℕ) → a < length rows → b < length cols → to_diagonal rule rows cols a b ≡ false → kept_at places a b ≡ entry_at rows cols offsets columns a b
      kept_is a b ha hb apart = kept.kept a b hb (omega (arith, fit.few, fit.alike)) apart

      pub add_fits : AddFits n rule rows cols (kept_at places) element diagonal values
      add_fits =
          record {
            dim = fit.dim;
            few = fit.few;
            alike = fit.alike;
            of_element = fit.of_element;
            of_diagonal = λ a b ha hb there. part_fits (n * n) (get_or rows a 0) (rows_of offsets) diagonal (node_inside (rows_of offsets) rows inside a ha) (omega (arith, fit.of_diagonal a b there));
            of_values = λ a b ha hb apart.
                let hb' : b < length cols = omega (arith, fit.alike) in
                rw (kept_is a b ha hb' apart) (part_fits (n * n) (entry_at rows cols offsets columns a b) (length columns) values (entry_inside a b ha hb' apart) (omega (arith, fit.of_values)));
          }
