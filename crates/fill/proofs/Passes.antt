-- The fill of a pattern is a factor pattern: its rows rise, hold no own column, and have true splits, so that `check_factor` passes it.
-- Assumes nothing.
use mathlib.Core.Path.{◌≡◌, sym, ap, ◌∙◌}
use mathlib.Core.Option.{none, some}
use Prim.Native.Nat.{ℕ, ◌+◌, ◌-◌, ◌≤◌, ◌<◌}
use native.Mathlib.Omega.{arith}
use lib.ListN.{length, get_or}
use Rattle.answers.specs.Checks.{first_of}
use Rattle.patterns.specs.Pattern.{split_of}
use Rattle.patterns.specs.Checks.{factor_checks}
use Rattle.walks.specs.Levels.{Pattern, level_of}
use Rattle.fill.specs.Fill.{columns_from, joined, fill_columns, fill_offsets, fill_splits, start_of, split_at}
use Rattle.fill.proofs.ColumnLaws.{column_level, columns_rise}
use Rattle.fill.proofs.Lists.{columns_below}
use Rattle.fill.proofs.JoinedLaws.{fill_row, fill_joined}
use Rattle.fill.proofs.GoingLaws.{own_none, row_columns}
use Rattle.fill.proofs.FactorLaws.{FactorRow, Starts, length_listed, listed_at, listed_starts, split_of_lem, joined_passes}

module _ (A : Pattern) (k n : ℕ) where
  pub fill_row_lem : (i : ℕ) → FactorRow n i (fill_row A k n i)
  fill_row_lem i = record {
    rising = columns_rise (level_of A k i) 0 n;
    below = λ e h. omega (arith, columns_below (level_of A k i) 0 n e h);
    apart = λ e h q.
        let z : some _ ≡ none = sym (rw q at (column_level (level_of A k i) 0 n e h).1) ∙ own_none A k n i in
        let y : ◌≡◌ {A = ℕ} 0 1 = cc in
        absurd (omega arith);
  }

  pub fill_starts : Starts (fill_row A k n) n (fill_offsets A k n)
  unfolding fill_offsets start_of
  fill_starts = listed_starts (fill_row A k n) (start_of A k n) n (λ i h. ap length (fill_joined A k n i))

  pub fill_split : (i : ℕ) → i < n → get_or (fill_splits A k n) i 0 ≡ split_of (fill_offsets A k n) (joined (fill_row A k n) n) i
  unfolding fill_splits split_at start_of
  fill_split i h =
      let f = level_of A k i in
      let low = columns_from f 0 i in
      let high = columns_from f (i + 1) (n - (i + 1)) in
      listed_at (split_at A k n) n i h ∙ rw (fill_joined A k n i)
      (sym (split_of_lem (fill_row A k n) n (fill_offsets A k n) fill_starts i h low high (row_columns A k n i h)
      (λ e b. omega (arith, columns_below f 0 i e b)) (λ e b. omega (arith, (column_level f (i + 1) (n - (i + 1)) e b).0))))

  pub fill_passes : 1 ≤ n → n ≤ 4096 → start_of A k n n ≤ 65535 → first_of (factor_checks (fill_offsets A k n) (fill_columns A k n n) (fill_splits A k n)) ≡ 0
  unfolding start_of fill_splits
  fill_passes least few room =
      rw (fill_joined A k n n)
      (joined_passes (fill_row A k n) n (fill_offsets A k n) fill_starts (λ i _. fill_row_lem i) (fill_splits A k n) fill_split least few (omega (arith, ap length (fill_joined A k n n), room))
      (length_listed (split_at A k n) 0 n))
