-- ILU(0) is ILU(k) at k = 0: the rows of A, sorted, are the rows of its fill at level 0.
-- Assumes nothing.
use mathlib.Core.Path.{◌≡◌, refl, sym, ap, ◌∙◌}
use mathlib.Core.Logic.{◌⊎◌, inl, inr, ◌≢◌}
use mathlib.Core.List.{List}
use mathlib.Core.Bool.{Bool, true, false, not}
use mathlib.Core.Option.{some}
use Prim.Native.Nat.{ℕ, zero, suc, ◌+◌, ◌≤◌, ◌<◌}
use native.Mathlib.Numerals.{add-one}
use native.Mathlib.Omega.{arith}
use lib.Dec.{leb}
use lib.ListN.{length, get_or}
use lib.Seq.{ext_get_or}
use borrow.Author.Tests.{le-leb}
use Rattle.base.proofs.All.{all_at, all_of}
use Rattle.patterns.specs.Pattern.{rows_of, row_of, never_fall, once, absent_to, all_once, own_absent, rises, split_of, valid_pattern}
use Rattle.patterns.proofs.Use.{pattern_entries, own_absent_lem, columns_once, row_length, row_column_below}
use Rattle.patterns.proofs.OffsetLaws.{pattern_offsets, offsets_first, offsets_last}
use Rattle.walks.specs.Levels.{Pattern, level_of}
use Rattle.walks.proofs.Highest.{le_or_lt}
use Rattle.walks.proofs.LevelLaws.{By, level_entry, level_from}
use Rattle.rows.specs.Sort.{sort_of, count}
use Rattle.rows.proofs.CountLaws.{count_some, count_all, count_once}
use Rattle.rows.proofs.RowLaws.{absent_at, absent_of, once_at, rises_level, rises_once}
use Rattle.rows.proofs.SortMeaning.{sorted_only, sorted_same_length}
use Rattle.fill.specs.Fill.{stored, joined, fill_columns, fill_offsets, fill_splits, start_of, split_at}
use Rattle.fill.proofs.ColumnLaws.{column_level, column_stands}
use Rattle.fill.proofs.JoinedLaws.{joined_same, joined_longer, fill_row, fill_joined}
use Rattle.fill.proofs.FactorLaws.{Starts, row_rises, length_listed, listed_at, one_starts}
use Rattle.fill.proofs.Passes.{fill_row_lem, fill_starts, fill_split}
use Rattle.ilu0.specs.Ilu0.{sorted_rows, sorted_splits}

-- at k = 0 no row gives a level, so that only entries have one
pub stored_level : (A : Pattern) (i j l : ℕ) → level_of A 0 i j ≡ some l → A i j ≡ true
stored_level A i j l e = go (level_from A 0 i j l e)
  where
    go : ((A i j ≡ true) × (l ≡ 0)) ⊎ ((p : ℕ) × By A 0 i j p l) → A i j ≡ true
    go (inl q) = q.0
    go (inr q) = absurd (omega (arith, q.1.a_below))

-- what is stored stands in the row, and what stands in the row is stored
module _ (o cs : List ℕ) (i : ℕ) where
  stored_counts : (j : ℕ) → stored o cs i j ≡ true → 1 ≤ count j (row_of o cs i)
  unfolding stored
  stored_counts j is = go (le_or_lt 1 (count j (row_of o cs i)))
    where
      go : (1 ≤ count j (row_of o cs i)) ⊎ (count j (row_of o cs i) < 1) → 1 ≤ count j (row_of o cs i)
      go (inl some-are) = some-are
      go (inr none_is) =
          let absent = absent_of (row_of o cs i) j (length (row_of o cs i)) (λ k below e. omega (arith, rw e at (count_some (row_of o cs i) k below))) in
          let wrong : false ≡ true = rw absent at is in
          let z : ◌≡◌ {A = ℕ} 0 1 = cc in
          absurd (omega arith)

  place_stored : (k : ℕ) → k < length (row_of o cs i) → stored o cs i (get_or (row_of o cs i) k 0) ≡ true
  unfolding stored
  place_stored k below = go (absent_to (row_of o cs i) (get_or (row_of o cs i) k 0) (length (row_of o cs i))) refl
    where
      go : (b : Bool) → absent_to (row_of o cs i) (get_or (row_of o cs i) k 0) (length (row_of o cs i)) ≡ b
          → not (absent_to (row_of o cs i) (get_or (row_of o cs i) k 0) (length (row_of o cs i))) ≡ true
      go true e = absurd (absent_at (row_of o cs i) (get_or (row_of o cs i) k 0) (length (row_of o cs i)) k e below refl)
      go false e = rw e

-- two lists without repeats that hold the same numbers have the same counts
same_counts : (l t : List ℕ) → ((v : ℕ) → count v l ≤ 1) → ((v : ℕ) → count v t ≤ 1) → ((k : ℕ) → k < length l → 1 ≤ count (get_or l k 0) t)
    → ((k : ℕ) → k < length t → 1 ≤ count (get_or t k 0) l) → (v : ℕ) → count v t ≡ count v l
same_counts l t few few' there back v = go (le_or_lt 1 (count v l)) (le_or_lt 1 (count v t))
  where
    go : (1 ≤ count v l) ⊎ (count v l < 1) → (1 ≤ count v t) ⊎ (count v t < 1) → count v t ≡ count v l
    go (inl p) q = omega (arith, few v, few' v, count_all (λ x. 1 ≤ count x t) v l p there)
    go (inr p) (inl q) = omega (arith, count_all (λ x. 1 ≤ count x l) v t q back)
    go (inr p) (inr q) = omega arith

-- a row that rises strictly never falls, and holds no number twice
rises_never_falls : (row : List ℕ) → rises row ≡ true → never_fall row ≡ true
unfolding never_fall
rises_never_falls row h = all_of (λ k. leb (get_or row k 0) (get_or row (k + 1) 0)) (rows_of row) (λ k b. le-leb _ _ (rises_level row k (k + 1) h (omega arith) (omega arith)))

once_counts : (row : List ℕ) → once row ≡ true → (v : ℕ) → count v row ≤ 1
once_counts row h v = count_once v row (λ j k. once_at row j k h)

module _ (starts entries : List ℕ) (valid : valid_pattern starts entries ≡ true) where
  module _ (i : ℕ) (h : i < rows_of starts) where
    row_once : once (row_of starts entries i) ≡ true
    unfolding all_once
    row_once = all_at (λ k. once (row_of starts entries k)) i (rows_of starts) (columns_once starts entries (pattern_entries starts entries valid)) h

    fill_rises : rises (fill_row (stored starts entries) 0 (rows_of starts) i) ≡ true
    fill_rises = row_rises (rows_of starts) i (fill_row (stored starts entries) 0 (rows_of starts) i) (fill_row_lem (stored starts entries) 0 (rows_of starts) i)

    -- a column of the row is one of the fill
    row_in_fill : (k : ℕ) → k < length (row_of starts entries i) → 1 ≤ count (get_or (row_of starts entries i) k 0) (fill_row (stored starts entries) 0 (rows_of starts) i)
    unfolding own_absent
    row_in_fill k b =
        let A = stored starts entries in
        let row = row_of starts entries i in
        let c : ℕ = get_or row k 0 in
        let filled = fill_row A 0 (rows_of starts) i in
        let other : i ≢ c = λ e. absent_at row i (length row) k (own_absent_lem starts entries valid i h) b (sym e) in
        let below : c < rows_of starts = row_column_below starts entries (pattern_entries starts entries valid) i k h b in
        let level = level_entry A 0 i c other (place_stored starts entries i k b) in
        let x = column_stands (level_of A 0 i) 0 (rows_of starts) c 0 (omega arith) (omega arith) level in
        rw x.2 at (count_some filled x.0 x.1)

    -- and a column of the fill one of the row
    fill_in_row : (e : ℕ) → e < length (fill_row (stored starts entries) 0 (rows_of starts) i)
        → 1 ≤ count (get_or (fill_row (stored starts entries) 0 (rows_of starts) i) e 0) (row_of starts entries i)
    fill_in_row e b =
        let A = stored starts entries in
        stored_counts starts entries i _ (stored_level A i _ _ (column_level (level_of A 0 i) 0 (rows_of starts) e b).1)

    -- so that row i, sorted, is row i of the fill
    pub sorted_row : sort_of (row_of starts entries i) ≡ fill_row (stored starts entries) 0 (rows_of starts) i
    sorted_row =
        let row = row_of starts entries i in
        let filled = fill_row (stored starts entries) 0 (rows_of starts) i in
        sym (sorted_only row filled (rises_never_falls filled fill_rises)
        (same_counts row filled (once_counts row row_once) (once_counts filled (rises_once filled fill_rises)) row_in_fill fill_in_row))

  -- the columns of the rows before i
  pub sorted_columns : (i : ℕ) → i ≤ rows_of starts → fill_columns (stored starts entries) 0 (rows_of starts) i ≡ sorted_rows starts entries i
  unfolding sorted_rows
  sorted_columns i h =
      fill_joined (stored starts entries) 0 (rows_of starts) i
      ∙ joined_same (fill_row (stored starts entries) 0 (rows_of starts)) (λ p. sort_of (row_of starts entries p)) i (λ p b. sym (sorted_row p (omega arith)))

  -- they begin where those of A do
  starts_at : (i : ℕ) → i ≤ rows_of starts → get_or starts i 0 ≡ length (joined (fill_row (stored starts entries) 0 (rows_of starts)) i)
  unfolding joined
  starts_at zero h = offsets_first starts entries (pattern_offsets starts entries valid)
  starts_at (suc i) h =
      let f = fill_row (stored starts entries) 0 (rows_of starts) in
      let next : get_or starts (i + 1) 0 ≡ length (joined f (i + 1)) =
      omega (arith, row_length starts entries (pattern_offsets starts entries valid) i h, starts_at i (omega arith), joined_longer f i, ap length (sorted_row i h), sorted_same_length (row_of starts entries i)) in
      rw (add-one i) at next

  module _ (some_rows : 1 ≤ rows_of starts) where
    pub sorted_starts : Starts (fill_row (stored starts entries) 0 (rows_of starts)) (rows_of starts) starts
    sorted_starts = record { long = omega arith; at = starts_at }

    pub offsets_at_zero : fill_offsets (stored starts entries) 0 (rows_of starts) ≡ starts
    offsets_at_zero =
        let A = stored starts entries in
        one_starts (fill_row A 0 (rows_of starts)) (rows_of starts) (fill_offsets A 0 (rows_of starts)) starts (fill_starts A 0 (rows_of starts)) sorted_starts

    pub columns_at_zero : fill_columns (stored starts entries) 0 (rows_of starts) (rows_of starts) ≡ sorted_rows starts entries (rows_of starts)
    columns_at_zero = sorted_columns (rows_of starts) (omega arith)

    pub splits_at_zero : fill_splits (stored starts entries) 0 (rows_of starts) ≡ sorted_splits starts entries
    unfolding fill_splits sorted_splits
    splits_at_zero =
        let A = stored starts entries in
        let n : ℕ = rows_of starts in
        let long : length (fill_splits A 0 n) ≡ n = length_listed (split_at A 0 n) 0 n in
        let split = split_of starts (sorted_rows starts entries n) in
        ext_get_or 0 (fill_splits A 0 n) (sorted_splits starts entries) (long ∙ sym (length_listed split 0 n)) (λ i h.
        let b : i < n = omega arith in
        fill_split A 0 n i b ∙ rw (offsets_at_zero, ← fill_joined A 0 n n, columns_at_zero) (sym (listed_at split n i b)))

    -- and A has as many entries as its fill
    pub entries_at_zero : start_of (stored starts entries) 0 (rows_of starts) (rows_of starts) ≡ length entries
    unfolding start_of
    entries_at_zero =
        let A = stored starts entries in
        let n : ℕ = rows_of starts in
        ap length (fill_joined A 0 n n) ∙ sym (starts_at n (omega arith)) ∙ offsets_last starts entries (pattern_offsets starts entries valid)
