-- The whole pattern: copied, with zeros behind it, and then sorted row by row.
-- Assumes nothing.
use mathlib.Core.Path.{◌≡◌, refl, sym, ap, ◌∙◌}
use mathlib.Core.List.{List, [], ◌++◌, append-nil}
use Prim.Native.Nat.{ℕ, ◌+◌, ◌-◌, ◌≤◌, ◌<◌}
use native.Mathlib.Omega.{arith}
use lib.Dec.{ltb}
use lib.ListN.{length, get_or, take, drop, replicate, length-drop}
use lib.Seq.{drop_at, drop-append-le, take-append-le}
use Rattle.base.specs.First.{first_in}
use Rattle.patterns.specs.Pattern.{rows_of, row_of, split_of}
use Rattle.patterns.proofs.OffsetLaws.{pattern_offsets, offsets_first, offsets_last, offsets_step, offset_within}
use Rattle.rows.specs.Sort.{sort_of}
use Rattle.fill.specs.Fill.{listed}
use Rattle.fill.specs.Steps.{over, put}
use Rattle.fill.proofs.JoinedLaws.{part_put, joined_same, listed_within, over_cleared}
use Rattle.ilu0.specs.Ilu0.{sorted_rows, sorted_splits}
use Rattle.ilu0.specs.Steps.{InOrder, split_in, RowsSorted, Ready, Written}
use Rattle.ilu0.proofs.RowLaws.{rows_long, row_there}

-- the entries, copied to the front, and zeros behind them
pub copied : (l s t u v w : List ℕ) → length l ≤ length s → t ≡ l → u ≡ take 0 s ++ (t ++ drop (length l - 0) (drop 0 s))
    → v ≡ replicate (length (take (length u - length l) (drop (length l) u))) 0 → w ≡ take (length l) u ++ (v ++ drop (length u - length l) (drop (length l) u))
    → w ≡ l ++ replicate (length s - length l) 0
unfolding put
copied l s t u v w h et eu ev ew =
    let long : length t ≡ length l - 0 = omega (arith, ap length et) in
    let front : u ≡ over l s = part_put 0 (length l) t s u long eu ∙ rw et in
    over_cleared (length l) l s v w refl h (rw front at ev) (rw front at ew)

module _ {starts entries : List ℕ} {o c s : ℕ} (R : Ready starts entries o c s) where
  -- the rows lie in order, whatever stands behind them
  pub in_order : (m : ℕ) → length entries ≤ m → m ≤ 65535 → InOrder starts m s
  in_order m h few =
      let valid = pattern_offsets starts entries R.valid in
      let n : s ≡ rows_of starts = R.splits_long in
      record {
        starts_long = omega (arith, R.some_rows, n);
        few = R.few;
        room = few;
        first = offsets_first starts entries valid;
        ordered = λ i l. offsets_step starts entries valid i (omega (arith, n));
        within = λ i l. omega (arith, offset_within starts entries valid (i + 1) (omega (arith, n)));
      }

  inner : InOrder starts (length entries) s
  inner = in_order (length entries) (omega arith) (omega (arith, R.fits, R.room))

  row_front : (behind : List ℕ) (i : ℕ) → i < s → row_of starts (entries ++ behind) i ≡ row_of starts entries i
  unfolding row_of
  row_front behind i h =
      let a : ℕ = get_or starts i 0 in
      let b : ℕ = get_or starts (i + 1) 0 in
      let ends : (a ≤ b) × (b ≤ length entries) = (inner.ordered i h, inner.within i h) in
      let inside : a ≤ length entries = omega arith in
      let short : b - a ≤ length (drop a entries) = omega (arith, length-drop a entries) in
      rw (drop-append-le a entries behind inside, take-append-le (b - a) (drop a entries) behind short)

  rows_same : (behind : List ℕ) → sorted_rows starts (entries ++ behind) s ≡ sorted_rows starts entries s
  unfolding sorted_rows
  rows_same behind = joined_same (λ i. sort_of (row_of starts (entries ++ behind) i)) (λ i. sort_of (row_of starts entries i)) s (λ i h. rw (row_front behind i h))

  all_long : length (sorted_rows starts entries s) ≡ length entries
  all_long = rows_long entries inner s (omega arith) ∙ rw R.splits_long (offsets_last starts entries (pattern_offsets starts entries R.valid))

  split_same : (behind : List ℕ) (i : ℕ) → i < s → split_in starts (entries ++ behind) i ≡ split_of starts (sorted_rows starts entries s) i
  unfolding split_in split_of row_of
  split_same behind i h =
      let F = sorted_rows starts entries s in
      let front : row_of starts (entries ++ behind) i ≡ row_of starts entries i = row_front behind i h in
      let there : take (get_or starts (i + 1) 0 - get_or starts i 0) (drop (get_or starts i 0) F) ≡ sort_of (row_of starts entries i) = rw append-nil at (row_there entries inner i s [] h (omega arith)) in
      ap (λ (l : List ℕ). get_or starts i 0 + first_in (λ c. ltb i c) (sort_of l)) front ∙ ap (λ (l : List ℕ). get_or starts i 0 + first_in (λ c. ltb i c) l) (sym there)

  pub written : (o' cs cs' ss' : List ℕ) → o' ≡ starts → cs ≡ entries ++ replicate (c - length entries) 0 → RowsSorted starts cs s cs' ss' → Written starts entries c o' cs' ss'
  unfolding over sorted_splits
  written o' cs cs' ss' eo ec S =
      let Z : List ℕ = replicate (c - length entries) 0 in
      let F = sorted_rows starts entries s in
      let rows : sorted_rows starts cs s ≡ F = rw ec (rows_same Z) in
      let behind : over (sorted_rows starts cs s) cs ≡ F ++ Z = rw (rows, ec) (ap (λ (t : List ℕ). F ++ t) (drop_at entries Z (length F) (sym all_long))) in
      let splits : listed (split_in starts cs) 0 s ≡ listed (split_of starts F) 0 s = rw ec (listed_within (split_in starts (entries ++ Z)) (split_of starts F) 0 s (λ i _ h. split_same Z i (omega arith))) in
      record {
        offsets_are = eo;
        columns_are = rw R.splits_long at (S.columns_are ∙ behind);
        splits_are = rw R.splits_long at (S.splits_are ∙ splits);
      }
