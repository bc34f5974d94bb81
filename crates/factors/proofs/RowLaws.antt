-- What a row's step touches: reducing or finishing row i changes its own block of the diagonal and the blocks of its own places, and no other.
-- Assumes nothing.
use mathlib.Core.Path.{◌≡◌, refl, sym, ◌∙◌}
use mathlib.Core.List.{List}
use mathlib.Core.Logic.{◌⊎◌, inl, inr, ⊎_elim}
use mathlib.Core.Bool.{Bool, true, false, cond}
use Prim.Native.Nat.{ℕ, zero, suc, ◌+◌, ◌-◌, ◌*◌, ◌/◌, ◌%◌, ◌≤◌, ◌<◌}
use native.Mathlib.Nat.{eq-or-lt_of_le}
use native.Mathlib.Omega.{arith}
use lib.Dec.{ltb, eqb}
use lib.ListN.{length, get_or, drop, length-take, length-drop}
use lib.Ieee.{Float, Format, nan, sub, mul}
use borrow.Author.Tests.{eqb-true, ltb-true, ltb-false}
use Rattle.base.specs.Iterate.{steps, iterate}
use Rattle.base.proofs.All.{all_at, and_right}
use Rattle.base.proofs.Sizes.{part_fits}
use Rattle.blocks.specs.Block.{element, sum_to, product}
use Rattle.blocks.specs.Inverse.{inverse}
use Rattle.blocks.specs.Lent.{block_at, put_at}
use Rattle.blocks.proofs.ListedLaws.{length_listed}
use Rattle.blocks.proofs.LentLaws.{length_put, put_before, put_after}
use Rattle.patterns.specs.Pattern.{rows_of, row_of, split_of, all_rise, true_splits, valid_splits, valid_pattern}
use Rattle.patterns.proofs.Use.{pattern_entries, valid_offsets_lem, row_ends}
use Rattle.rows.specs.Lookup.{no_place, place_in}
use Rattle.rows.proofs.LookupLaws.{is_found}
use Rattle.factors.specs.Factor.{FactorPattern, FactorValues, less_block, take_from, take_product, take_pivot, reduce_row, invert_pivot, multiply_entry, finish_row}

-- What a step keeps of any state, all steps keep, also where there are none.
module _ {S : Type 0} (f : ℕ → S → S) (P : S → Type 0) (lo : ℕ) (s : S) where
  stays_for : (m : ℕ) → P s → ((k : ℕ) (u : S) → lo ≤ k → k < lo + m → P u → P (f k u)) → P (steps f lo m s)
  unfolding steps
  stays_for zero start step = start
  stays_for (suc m) start step = step (lo + m) _ (omega arith) (omega arith) (stays_for m start (λ k u a b. step k u a (omega arith)))

  pub stays : (hi : ℕ) → P s → ((k : ℕ) (u : S) → lo ≤ k → k < hi → P u → P (f k u)) → P (iterate f lo hi s)
  unfolding iterate
  stays hi start step = stays_for (hi - lo) start (λ k u a b. step k u a (omega arith))

-- The blocks of a list before place `first`, and from place `past` on, are as they were.
pub record Outside (n first past : ℕ) (old new : List Float) : Type 0 where
  pub long : length new ≡ length old
  pub before : (w : ℕ) → w < first → block_at n new w ≡ block_at n old w
  pub after : (w : ℕ) → past ≤ w → n * n * w + n * n ≤ length old → block_at n new w ≡ block_at n old w

pub outside_none : (n first past : ℕ) (old : List Float) → Outside n first past old old
outside_none n first past old = record { long = refl; before = λ w h. refl; after = λ w h l. refl }

-- a change after another, both within the same places
pub outside_more : {n f p g q : ℕ} (lo hi : ℕ) {a b c : List Float} → Outside n f p a b → Outside n g q b c → lo ≤ f → lo ≤ g → p ≤ hi → q ≤ hi → Outside n lo hi a c
outside_more lo hi x y f≥ g≥ p≤ q≤ =
    record {
      long = y.long ∙ x.long;
      before = λ w h. y.before w (omega arith) ∙ x.before w (omega arith);
      after = λ w h l. y.after w (omega arith) (omega (arith, x.long, l)) ∙ x.after w (omega arith) l;
    }

-- a block that is put in its place; a shorter list of values too
pub outside_put : (n w : ℕ) (new old : List Float) → length new ≤ n * n → n * n * w + n * n ≤ length old → Outside n w (w + 1) old (put_at (n * n * w) new old)
outside_put n w new old short fits =
    let room : n * n * w + length new ≤ length old = omega arith in
    record {
      long = length_put (n * n * w) new old room;
      before = λ e h. put_before (n * n * w) new old room (n * n * e) (n * n) (part_fits (n * n) e w (n * n * w) h (omega arith));
      after = λ e h l. put_after (n * n * w) new old room (n * n * e) (n * n) (omega (arith, short, part_fits (n * n) w e (n * n * e) (omega (arith, h)) (omega arith))) l;
    }

-- an inverse has as many values as a block, or none where there is no inverse of that N
pub inverse_short : (f : Format) (n : ℕ) (a : List Float) → length (inverse f n a) ≤ n * n
inverse_short f zero a = omega arith
inverse_short f (suc zero) a = omega arith
inverse_short f (suc (suc zero)) a = omega arith
inverse_short f (suc (suc (suc zero))) a = omega arith
inverse_short f (suc (suc (suc (suc n)))) a = omega arith

-- The values have room for the pattern's blocks.
pub record Fits (n : ℕ) (t : FactorPattern) (s : FactorValues) : Type 0 where
  pub diagonal : length s.diagonal ≡ n * n * rows_of t.offsets
  pub values : length s.values ≡ n * n * length t.columns

-- block w is within them
pub diagonal_room : {n : ℕ} {t : FactorPattern} {s : FactorValues} → Fits n t s → (w : ℕ) → w < rows_of t.offsets → n * n * w + n * n ≤ length s.diagonal
diagonal_room {n} {t} {s} fits w below = part_fits (n * n) w (rows_of t.offsets) (length s.diagonal) below (omega (arith, fits.diagonal))

pub place_room : {n : ℕ} {t : FactorPattern} {s : FactorValues} → Fits n t s → (w : ℕ) → w < length t.columns → n * n * w + n * n ≤ length s.values
place_room {n} {t} {s} fits w below = part_fits (n * n) w (length t.columns) (length s.values) below (omega (arith, fits.values))

-- The rows lie one after the other, and no split stands before its row.
pub record Apart (t : FactorPattern) : Type 0 where
  pub rising : (i : ℕ) → i < rows_of t.offsets → get_or t.offsets i 0 ≤ get_or t.offsets (i + 1) 0
  pub within : (i : ℕ) → i < rows_of t.offsets → get_or t.offsets (i + 1) 0 ≤ length t.columns
  pub split : (i : ℕ) → i < rows_of t.offsets → get_or t.offsets i 0 ≤ get_or t.splits i 0

pub split_is : (o cs splits : List ℕ) → valid_splits o cs splits ≡ true → (i : ℕ) → i < rows_of o → get_or splits i 0 ≡ split_of o cs i
unfolding valid_splits true_splits
split_is o cs splits valid i inside =
    eqb-true (get_or splits i 0) (split_of o cs i)
    (all_at (λ k. eqb (get_or splits k 0) (split_of o cs k)) i (rows_of o) (and_right (all_rise o cs) (true_splits o cs splits) valid) inside)

-- so it is in a valid pattern with valid splits
pub valid_apart : (t : FactorPattern) → valid_pattern t.offsets t.columns ≡ true → valid_splits t.offsets t.columns t.splits ≡ true → Apart t
unfolding split_of
valid_apart t pattern splits =
    let o = t.offsets in
    let cs = t.columns in
    let offsets = valid_offsets_lem o cs (pattern_entries o cs pattern) in
    record {
      rising = λ i h. (row_ends o cs offsets i h).0;
      within = λ i h. (row_ends o cs offsets i h).1;
      split = λ i h. omega (arith, split_is o cs t.splits splits i h);
    }

-- Nothing has changed but rows a to below b.
pub record RowsAlone (n : ℕ) (t : FactorPattern) (a b : ℕ) (s u : FactorValues) : Type 0 where
  pub diagonal : Outside n a b s.diagonal u.diagonal
  pub values : Outside n (get_or t.offsets a 0) (get_or t.offsets b 0) s.values u.values

pub alone_none : (n : ℕ) (t : FactorPattern) (a b : ℕ) (s : FactorValues) → RowsAlone n t a b s s
alone_none n t a b s = record { diagonal = outside_none n _ _ _; values = outside_none n _ _ _ }

-- the values still have their room
pub alone_fits : {n : ℕ} {t : FactorPattern} {a b : ℕ} {s u : FactorValues} → Fits n t s → RowsAlone n t a b s u → Fits n t u
alone_fits fits alone = record { diagonal = alone.diagonal.long ∙ fits.diagonal; values = alone.values.long ∙ fits.values }

-- a change of rows after another
pub alone_more : {n : ℕ} (t : FactorPattern) {a b c : ℕ} {s u v : FactorValues} → RowsAlone n t a b s u → RowsAlone n t b c u v → a ≤ b → b ≤ c
    → get_or t.offsets a 0 ≤ get_or t.offsets b 0 → get_or t.offsets b 0 ≤ get_or t.offsets c 0 → RowsAlone n t a c s v
alone_more t {a} {b} {c} x y ab bc oab obc =
    record {
      diagonal = outside_more a c x.diagonal y.diagonal (omega arith) (omega arith) (omega arith) (omega arith);
      values = outside_more (get_or t.offsets a 0) (get_or t.offsets c 0) x.values y.values (omega arith) (omega arith) (omega arith) (omega arith);
    }

pub alone_again : {n : ℕ} (t : FactorPattern) {a b : ℕ} {s u v : FactorValues} → RowsAlone n t a b s u → RowsAlone n t a b u v → RowsAlone n t a b s v
alone_again t {a} {b} x y =
    record {
      diagonal = outside_more a b x.diagonal y.diagonal (omega arith) (omega arith) (omega arith) (omega arith);
      values = outside_more (get_or t.offsets a 0) (get_or t.offsets b 0) x.values y.values (omega arith) (omega arith) (omega arith) (omega arith);
    }

-- The steps of row i. Reducing asks nothing of the pattern.
module _ (f : Format) (n : ℕ) (t : FactorPattern) (i : ℕ) (inside : i < rows_of t.offsets) where
  -- a change of the row's block of the diagonal, and of a block in one of its places
  own_block : (s : FactorValues) (new : List Float) → Fits n t s → length new ≤ n * n
      → RowsAlone n t i (i + 1) s (record { diagonal = put_at (n * n * i) new s.diagonal; values = s.values })
  own_block s new fits short =
      record {
        diagonal = outside_put n i new s.diagonal short (diagonal_room fits i inside);
        values = outside_none n _ _ _;
      }

  own_place : (s : FactorValues) (w : ℕ) (new : List Float) → Fits n t s → length new ≤ n * n
      → get_or t.offsets i 0 ≤ w → w < get_or t.offsets (i + 1) 0 → w < length t.columns
      → RowsAlone n t i (i + 1) s (record { diagonal = s.diagonal; values = put_at (n * n * w) new s.values })
  own_place s w new fits short low high there =
      record {
        diagonal = outside_none n _ _ _;
        values =
            outside_more (get_or t.offsets i 0) (get_or t.offsets (i + 1) 0) (outside_none n w (w + 1) s.values)
            (outside_put n w new s.values short (place_room fits w there)) low low (omega arith) (omega arith);
      }

  -- a place of the row is below its end, and is one of the columns
  row_place : (place : ℕ) → place < length (row_of t.offsets t.columns i)
      → (get_or t.offsets i 0 + place < get_or t.offsets (i + 1) 0) × (get_or t.offsets i 0 + place < length t.columns)
  unfolding row_of
  row_place place below =
      let cut = length-take (get_or t.offsets (i + 1) 0 - get_or t.offsets i 0) (drop (get_or t.offsets i 0) t.columns) in
      let rest = length-drop (get_or t.offsets i 0) t.columns in
      (omega (arith, cut, below), omega (arith, cut, rest, below))

  less_place : (s : FactorValues) (block : List Float) (place : ℕ) → Fits n t s → (b c : Bool) → (c ≡ false → place < length (row_of t.offsets t.columns i))
      → RowsAlone n t i (i + 1) s (cond b (record { diagonal = less_block f n i block s.diagonal; values = s.values })
      (cond c s (record { diagonal = s.diagonal; values = less_block f n (get_or t.offsets i 0 + place) block s.values })))
  unfolding less_block
  less_place s block place fits true c there = own_block s _ fits (omega (arith, length_listed (n * n) (λ k. sub f (get_or (block_at n s.diagonal i) k nan) (get_or block k nan))))
  less_place s block place fits false true there = alone_none n t i (i + 1) s
  less_place s block place fits false false there =
      let w = get_or t.offsets i 0 + place in
      let ends = row_place place (there refl) in
      own_place s w _ fits (omega (arith, length_listed (n * n) (λ k. sub f (get_or (block_at n s.values w) k nan) (get_or block k nan)))) (omega arith) ends.0 ends.1

  take_alone : (j : ℕ) (block : List Float) (s : FactorValues) → Fits n t s → RowsAlone n t i (i + 1) s (take_from f n t i j block s)
  unfolding take_from
  take_alone j block s fits =
      let row = row_of t.offsets t.columns i in
      less_place s block (place_in row j) fits (eqb j i) (eqb (place_in row j) no_place) (λ e. (is_found row j (place_in row j) refl (rw e)).below)

  pivot_alone : (e : ℕ) (s : FactorValues) → Fits n t s → RowsAlone n t i (i + 1) s (take_pivot f n t i e s)
  unfolding take_pivot take_product
  pivot_alone e s fits =
      stays (take_product f n t i e) (RowsAlone n t i (i + 1) s) (get_or t.splits (get_or t.columns e 0) 0) s (get_or t.offsets (get_or t.columns e 0 + 1) 0)
      (alone_none n t i (i + 1) s) (λ g u a b so. alone_again t so (take_alone (get_or t.columns g 0) (product f n (block_at n u.values e) (block_at n u.values g)) u (alone_fits fits so)))

  -- the lower entries' products
  pub reduce_alone : (s : FactorValues) → Fits n t s → RowsAlone n t i (i + 1) s (reduce_row f n t i s)
  unfolding reduce_row
  reduce_alone s fits =
      stays (take_pivot f n t i) (RowsAlone n t i (i + 1) s) (get_or t.offsets i 0) s (get_or t.splits i 0)
      (alone_none n t i (i + 1) s) (λ e u a b so. alone_again t so (pivot_alone e u (alone_fits fits so)))

  invert_alone : (s : FactorValues) → Fits n t s → RowsAlone n t i (i + 1) s (invert_pivot f n i s)
  unfolding invert_pivot
  invert_alone s fits = own_block s _ fits (inverse_short f n (block_at n s.diagonal i))

  multiply_alone : (g : ℕ) (s : FactorValues) → Fits n t s → get_or t.offsets i 0 ≤ g → g < get_or t.offsets (i + 1) 0 → g < length t.columns
      → RowsAlone n t i (i + 1) s (multiply_entry f n i g s)
  unfolding multiply_entry
  multiply_alone g s fits low high there =
      let a = block_at n s.diagonal i in
      let b = block_at n s.values g in
      own_place s g (product f n a b) fits (omega (arith, length_listed (n * n) (λ j. sum_to f n (λ q. mul f (element n a (j % n) q) (element n b q (j / n)))))) low high there

  -- the pivot's inverse and the upper entries
  pub finish_alone : Apart t → (s : FactorValues) → Fits n t s → RowsAlone n t i (i + 1) s (finish_row f n t i s)
  unfolding finish_row
  finish_alone apart s fits =
      let end = get_or t.offsets (i + 1) 0 in
      let within : end ≤ length t.columns = apart.within i inside in
      let split = apart.split i inside in
      stays (multiply_entry f n i) (RowsAlone n t i (i + 1) s) (get_or t.splits i 0) (invert_pivot f n i s) end (invert_alone s fits)
      (λ g u a b so. alone_again t so (multiply_alone g u (alone_fits fits so) (omega (arith, split, a)) b (omega (arith, b))))

past_of : {w i : ℕ} → i ≤ w → (w ≡ i → ⊥) → i + 1 ≤ w
past_of least other = ⊎_elim (λ e. absurd (other (sym e))) (λ less. omega (arith, less)) (eq-or-lt_of_le least)

-- What a reader has of that, where only row i has changed: every other block of the diagonal and every block outside the row's places is as it was.
module _ {n : ℕ} (t : FactorPattern) (i : ℕ) {s u : FactorValues} (fits : Fits n t s) (alone : RowsAlone n t i (i + 1) s u) (w : ℕ) where
  pub other_diagonal : w < rows_of t.offsets → (w ≡ i → ⊥) → block_at n u.diagonal w ≡ block_at n s.diagonal w
  other_diagonal below other = go (ltb w i) refl
    where
      go : (b : Bool) → ltb w i ≡ b → block_at n u.diagonal w ≡ block_at n s.diagonal w
      go true e = alone.diagonal.before w (ltb-true w i e)
      go false e =
          let past : i + 1 ≤ w = past_of (ltb-false w i e) other in
          alone.diagonal.after w past (diagonal_room fits w below)

  pub other_place : w < length t.columns → (w < get_or t.offsets i 0) ⊎ (get_or t.offsets (i + 1) 0 ≤ w) → block_at n u.values w ≡ block_at n s.values w
  other_place below (inl before) = alone.values.before w before
  other_place below (inr past) = alone.values.after w past (place_room fits w below)

-- and so it is with both steps
module _ (f : Format) (n : ℕ) (t : FactorPattern) (i : ℕ) (inside : i < rows_of t.offsets) (s : FactorValues) (fits : Fits n t s) (w : ℕ) where
  pub reduce_diagonal : w < rows_of t.offsets → (w ≡ i → ⊥) → block_at n (reduce_row f n t i s).diagonal w ≡ block_at n s.diagonal w
  reduce_diagonal = other_diagonal t i fits (reduce_alone f n t i inside s fits) w

  pub reduce_place : w < length t.columns → (w < get_or t.offsets i 0) ⊎ (get_or t.offsets (i + 1) 0 ≤ w) → block_at n (reduce_row f n t i s).values w ≡ block_at n s.values w
  reduce_place = other_place t i fits (reduce_alone f n t i inside s fits) w

  pub finish_diagonal : Apart t → w < rows_of t.offsets → (w ≡ i → ⊥) → block_at n (finish_row f n t i s).diagonal w ≡ block_at n s.diagonal w
  finish_diagonal apart = other_diagonal t i fits (finish_alone f n t i inside apart s fits) w

  pub finish_place : Apart t → w < length t.columns → (w < get_or t.offsets i 0) ⊎ (get_or t.offsets (i + 1) 0 ≤ w)
      → block_at n (finish_row f n t i s).values w ≡ block_at n s.values w
  finish_place apart = other_place t i fits (finish_alone f n t i inside apart s fits) w
