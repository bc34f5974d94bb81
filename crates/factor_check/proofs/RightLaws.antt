-- What the quick check finds makes a valid pattern with sorted rows and true splits.
-- Assumes nothing.
use mathlib.Core.Path.{◌≡◌, refl, sym, ap, ◌∙◌}
use mathlib.Core.List.{List, [], ◌∷◌}
use mathlib.Core.Bool.{Bool, true, false, not}
use Prim.Native.Nat.{ℕ, suc, ◌+◌, ◌-◌, ◌≤◌, ◌<◌}
use native.Mathlib.Numerals.{add-one}
use native.Mathlib.Omega.{arith}
use lib.Dec.{ltb, leb, eqb}
use lib.ListN.{length, get_or}
use borrow.Author.Tests.{ltb-true, ltb-false, lt-ltb, le-leb, ne_eqb, eq-eqb}
use Rattle.base.proofs.All.{both, all_at, all_of}
use Rattle.patterns.specs.Pattern.{rows_of, row_of, never_fall, valid_offsets, valid_pattern, rises, valid_splits}
use Rattle.patterns.specs.Steps.{Ordered, climbs, rows_climb, first_above}
use Rattle.patterns.proofs.OffsetLaws.{last_decides}
use Rattle.patterns.proofs.RowLaws.{valid_pattern_lem}
use Rattle.patterns.proofs.FastLaws.{climbing_valid}
use Rattle.patterns.proofs.SplitLaws.{rising_le, is_first}
use Rattle.patterns.proofs.FactorLaws.{factor_row_at, place_decides, all_rows}
use Rattle.patterns.proofs.Use.{row_length, row_column}
use Rattle.factor_check.specs.Steps.{count_to, falls_at, Apart, RightRows}
use Rattle.factor_check.proofs.FallLaws.{inside_rises}

-- a row that rises from `least` on, without its own column and below n, climbs
climb_of : (n own : ℕ) (row : List ℕ) (least : ℕ) → (1 ≤ length row → least ≤ get_or row 0 0)
    → ((j : ℕ) → suc j < length row → get_or row j 0 < get_or row (suc j) 0)
    → ((j : ℕ) → j < length row → (get_or row j 0 ≡ own → ⊥) × (get_or row j 0 < n)) → climbs n own least row ≡ true
unfolding climbs
climb_of n own [] least low up each = refl
climb_of n own (c ∷ row) least low up each =
    both
    (both (both (le-leb least c (low (omega arith))) (ap not (ne_eqb c own (each 0 (omega arith)).0))) (lt-ltb c n (each 0 (omega arith)).1))
    (climb_of n own row (c + 1) (λ some. omega (arith, up 0 (omega arith))) (λ j h. up (suc j) (omega arith)) (λ j h. each (suc j) (omega arith)))

-- A row that rises, with a place k: the columns on both sides of it are on their sides of i, and the last column is below n.
module _ (n i k : ℕ) (row : List ℕ) (rising : rises row ≡ true) (within : k ≤ length row) (low : 1 ≤ k → get_or row (k - 1) 0 < i)
    (high : k < length row → i < get_or row k 0) (last : 1 ≤ length row → get_or row (length row - 1) 0 < n) where
  each_right : (j : ℕ) → j < length row → (get_or row j 0 ≡ i → ⊥) × (get_or row j 0 < n)
  each_right j h = (go (ltb j k) refl, omega (arith, last (omega arith), rising_le row rising j (length row - 1) (omega arith) (omega arith)))
    where
      go : (t : Bool) → ltb j k ≡ t → get_or row j 0 ≡ i → ⊥
      go true t e =
          let before : j < k = ltb-true j k t in
          omega (arith, e, low (omega arith), rising_le row rising j (k - 1) (omega arith) (omega arith))
      go false t e =
          let from : k ≤ j = ltb-false j k t in
          omega (arith, e, high (omega arith), rising_le row rising k j from h)

  steps_rise : (j : ℕ) → suc j < length row → get_or row j 0 < get_or row (suc j) 0
  unfolding rises
  steps_rise j h =
      rw (← add-one j) (ltb-true _ _ (all_at (λ e. ltb (get_or row e 0) (get_or row (e + 1) 0)) j (length row - 1) rising (omega arith)))

  row_climbs : climbs n i 0 row ≡ true
  row_climbs = climb_of n i row 0 (λ some. omega arith) steps_rise each_right

  row_split : eqb k (first_above i row) ≡ true
  row_split = is_first row i k rising within high (λ some. omega (arith, low some))

module _ (o cs s : List ℕ) (falls : ℕ) (right : RightRows o cs s falls) (all : falls ≡ count_to (falls_at cs) (length cs)) (some : 1 ≤ rows_of o)
    (few : rows_of o ≤ 4096) (first : get_or o 0 0 ≡ 0) (last : get_or o (rows_of o) 0 ≡ length cs) where
  ups : (i : ℕ) → i < rows_of o → get_or o i 0 ≤ get_or o (i + 1) 0
  ups i h = omega (arith, (right.each i h).apart.from, (right.each i h).apart.to)

  offsets_valid : valid_offsets o cs ≡ true
  unfolding never_fall
  offsets_valid =
      sym (last_decides o cs (omega arith) first (all_of (λ i. leb (get_or o i 0) (get_or o (i + 1) 0)) (rows_of o) (λ i h. le-leb _ _ (ups i h))) (get_or o (rows_of o) 0) refl)
      ∙ eq-eqb _ _ last

  ordered : Ordered o cs
  ordered = record { some = some; few = few; valid = offsets_valid }

  module _ (i : ℕ) (h : i < rows_of o) where
    long : get_or o i 0 + length (row_of o cs i) ≡ get_or o (i + 1) 0
    long = row_length o cs offsets_valid i h

    column : (k e : ℕ) → k < length (row_of o cs i) → get_or o i 0 + k ≡ e → get_or (row_of o cs i) k 0 ≡ get_or cs e 0
    column k e l is = row_column o cs offsets_valid i k h l ∙ ap (λ (p : ℕ). get_or cs p 0) is

    step_rises : (k : ℕ) → k + 1 < length (row_of o cs i) → get_or (row_of o cs i) k 0 < get_or (row_of o cs i) (k + 1) 0
    step_rises k l =
        let e : ℕ = get_or o i 0 + k in
        rw (column k e (omega arith) refl, column (k + 1) (e + 1) l (omega arith))
        (inside_rises o cs first ups last (sym all ∙ right.counted) i e h (omega arith) (omega (arith, long)) (right.each i h).within)

    row_rises : rises (row_of o cs i) ≡ true
    unfolding rises
    row_rises =
        all_of (λ k. ltb (get_or (row_of o cs i) k 0) (get_or (row_of o cs i) (k + 1) 0)) (length (row_of o cs i) - 1)
        (λ k l. lt-ltb (get_or (row_of o cs i) k 0) (get_or (row_of o cs i) (k + 1) 0) (step_rises k (omega arith)))

    abbrev beside : Apart i (get_or o i 0) (get_or s i 0) (get_or o (i + 1) 0) cs
    beside = (right.each i h).apart

    within : get_or s i 0 - get_or o i 0 ≤ length (row_of o cs i)
    within = omega (arith, long, beside.from, beside.to)

    low : 1 ≤ get_or s i 0 - get_or o i 0 → get_or (row_of o cs i) (get_or s i 0 - get_or o i 0 - 1) 0 < i
    low some = rw (column (get_or s i 0 - get_or o i 0 - 1) (get_or s i 0 - 1) (omega (arith, within)) (omega arith)) (beside.low (omega arith))

    high : get_or s i 0 - get_or o i 0 < length (row_of o cs i) → i < get_or (row_of o cs i) (get_or s i 0 - get_or o i 0) 0
    high inside = rw (column (get_or s i 0 - get_or o i 0) (get_or s i 0) inside (omega (arith, beside.from))) (beside.high (omega (arith, long, inside, beside.from)))

    below : 1 ≤ length (row_of o cs i) → get_or (row_of o cs i) (length (row_of o cs i) - 1) 0 < rows_of o
    below some = rw (column (length (row_of o cs i) - 1) (get_or o (i + 1) 0 - 1) (omega arith) (omega (arith, long))) ((right.each i h).last (omega (arith, long)))

  pub pattern_right : valid_pattern o cs ≡ true
  unfolding rows_climb
  pattern_right =
      sym (valid_pattern_lem o cs)
      ∙ climbing_valid true o cs ordered
      (all_of (λ i. climbs (rows_of o) i 0 (row_of o cs i)) (rows_of o)
      (λ i h. row_climbs (rows_of o) i (get_or s i 0 - get_or o i 0) (row_of o cs i) (row_rises i h) (within i h) (low i h) (high i h) (below i h)))

  pub splits_right : valid_splits o cs s ≡ true
  splits_right =
      all_rows o cs s
      ∙ all_of (factor_row_at o cs s) (rows_of o)
      (λ i h. sym (place_decides i (get_or o i 0) (get_or s i 0) (row_of o cs i) (row_rises i h) (right.each i h).apart.from)
      ∙ row_split (rows_of o) i (get_or s i 0 - get_or o i 0) (row_of o cs i) (row_rises i h) (within i h) (low i h) (high i h) (below i h))
