-- What a factor that fits gives to the work on each of its rows.
-- Assumes nothing.
use mathlib.Core.Path.{◌≡◌, refl, sym}
use mathlib.Core.List.{List, [], ◌∷◌}
use mathlib.Core.Bool.{Bool, true, false, cond}
use Prim.Native.Nat.{ℕ, suc, ◌+◌, ◌-◌, ◌*◌, ◌≤◌, ◌<◌}
use native.Mathlib.Nat.{mul-le-mul_left}
use native.Mathlib.Omega.{arith}
use lib.Dec.{ltb}
use lib.ListN.{length, get_or, take, drop}
use borrow.Author.Tests.{lt-ltb, ne_eqb}
use Rattle.base.specs.First.{first_in}
use Rattle.base.proofs.All.{all_at, all_of, and_left}
use Rattle.base.proofs.Sizes.{part_fits}
use Rattle.patterns.specs.Pattern.{rows_of, row_of, rises, all_rise, all_below, split_of, true_splits, valid_splits, valid_entries}
use Rattle.patterns.proofs.RowLaws.{part_below}
use Rattle.patterns.proofs.Use.{pattern_entries, valid_offsets_lem, row_length, column_below}
use Rattle.rows.specs.Lookup.{no_place, place_in}
use Rattle.rows.proofs.RowLaws.{rises_once}
use Rattle.rows.proofs.LookupLaws.{is_found}
use Rattle.places.specs.Places.{Markable}
use Rattle.lent.specs.Steps.{Within}
use Rattle.matrix.proofs.FitLaws.{row_is, ends_of}
use Rattle.factors.proofs.RowLaws.{split_is}
use Rattle.factor_check.specs.Fits.{FactorFits}

-- a search ends within its list
module _ (p : ℕ → Bool) where
  step : (b : Bool) (n m : ℕ) → n ≤ m → cond b 0 (suc n) ≤ suc m
  step true n m h = omega arith
  step false n m h = omega arith

  pub first_within : (l : List ℕ) → first_in p l ≤ length l
  unfolding first_in
  first_within [] = omega arith
  first_within (x ∷ l) = step (p x) (first_in p l) (length l) (first_within l)

module _ {n : ℕ} {o cs s : List ℕ} {diagonal values : ℕ} (fit : FactorFits n o cs s diagonal values) where
  pub entries : valid_entries o cs ≡ true
  entries = pattern_entries o cs fit.matrix.pattern

  -- an entry has its block
  pub place_within : (e : ℕ) → e < length cs → Within (n * n) e values
  place_within e h = part_fits (n * n) e (length cs) values h (omega (arith, fit.matrix.of_values))

  -- the row that an entry leads to
  pub pivot_below : (e : ℕ) → e < length cs → get_or cs e 0 < rows_of o
  pivot_below e h = column_below o cs entries e h

  -- columns that are below the number of rows are below the most of rows
  pub columns_few : all_below 4096 cs ≡ true
  unfolding all_below
  columns_few = all_of (λ e. ltb (get_or cs e 0) 4096) (length cs) (λ e h. lt-ltb (get_or cs e 0) 4096 (omega (arith, pivot_below e h, fit.rows)))

  module _ (i : ℕ) (h : i < rows_of o) where
    pub diagonal_within : Within (n * n) i diagonal
    diagonal_within = part_fits (n * n) i (rows_of o) diagonal h (omega (arith, fit.matrix.of_diagonal))

    pub row_ends : (get_or o i 0 ≤ get_or o (i + 1) 0) × (get_or o (i + 1) 0 ≤ length cs)
    row_ends = ends_of fit.matrix i h _ _ refl refl

    pub row_within : n * n * get_or o (i + 1) 0 ≤ values
    row_within = omega (arith, fit.matrix.of_values, mul-le-mul_left (n * n) row_ends.1)

    pub row_long : get_or o i 0 + length (row_of o cs i) ≡ get_or o (i + 1) 0
    row_long = row_length o cs (valid_offsets_lem o cs entries) i h

    -- the split is within its row
    pub split_between : (get_or o i 0 ≤ get_or s i 0) × (get_or s i 0 ≤ get_or o (i + 1) 0)
    unfolding split_of
    split_between =
        let is = split_is o cs s fit.splits_right i h in
        (omega (arith, is), omega (arith, is, row_long, first_within (λ c. ltb i c) (row_of o cs i)))

    -- and the row within the columns
    pub split_ends : (get_or o i 0 ≤ get_or s i 0) × (get_or s i 0 ≤ get_or o (i + 1) 0) × (get_or o (i + 1) 0 ≤ length cs)
    split_ends = (split_between.0, split_between.1, row_ends.1)

    pub row_rises : rises (row_of o cs i) ≡ true
    unfolding valid_splits all_rise
    row_rises = all_at (λ k. rises (row_of o cs k)) i (rows_of o) (and_left (all_rise o cs) (true_splits o cs s) fit.splits_right) h

    -- the part of the columns that is handed on can be marked
    pub can_be_marked : Markable (take (get_or o (i + 1) 0 - get_or o i 0) (drop (get_or o i 0) cs))
    can_be_marked =
        let is = row_is o cs i (get_or o i 0) (get_or o (i + 1) 0) refl refl in
        record {
          few = rw is (omega (arith, fit.few, row_long, row_ends.1));
          below = part_below 4096 4096 cs columns_few (omega arith) (get_or o (i + 1) 0 - get_or o i 0) (get_or o i 0);
          single = rw is (rises_once (row_of o cs i) row_rises);
        }

    -- a place that is found there is one of the row's
    pub found_below : (j place : ℕ) → place ≡ place_in (take (get_or o (i + 1) 0 - get_or o i 0) (drop (get_or o i 0) cs)) j → (place ≡ no_place → ⊥) → get_or o i 0 + place < length cs
    found_below j place is there =
        let found = is_found (row_of o cs i) j place (sym (rw (row_is o cs i (get_or o i 0) (get_or o (i + 1) 0) refl refl) at is)) (rw (ne_eqb place no_place there)) in
        omega (arith, found.below, row_long, row_ends.1)
