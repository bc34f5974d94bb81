-- What the function that writes a row out needs.
-- Assumes nothing.
use mathlib.Core.Path.{◌≡◌, ap, ◌∙◌}
use mathlib.Core.List.{List, ◌++◌, append-nil}
use Prim.Native.Nat.{ℕ, ◌+◌, ◌-◌, ◌≤◌}
use native.Mathlib.Omega.{arith}
use lib.ListN.{length, take, drop, replicate, length-drop, length-take, drop_of_length-le}
use lib.Seq.{take_all}
use Rattle.fill.specs.Fill.{columns_from}
use Rattle.fill.specs.Steps.{levels_in, over, put, PutFits}
use Rattle.fill.proofs.Lists.{fewer}
use Rattle.fill.proofs.SpanLaws.{zeros_over}

module _ {i at all low high : ℕ} {o cs ss ls row : List ℕ} (F : PutFits i at all low high o cs ss ls row) where
  pub put_small : (lower : ℕ) → lower ≡ length (columns_from (levels_in row) 0 i) → at + lower ≤ 65535
  put_small lower e = omega (arith, e, fewer (levels_in row) i (length row) (omega (arith, F.in_row)), F.fits, F.all_is, F.room)

  pub put_columns : length (columns_from (levels_in row) 0 (length row)) ≤ length (take (length cs - at) (drop at cs))
  put_columns = omega (arith, length-take (length cs - at) (drop at cs), length-drop at cs, F.fits, F.all_is)

  pub put_levels : length (columns_from (levels_in row) 0 (length row)) ≤ length (take (length ls - at) (drop at ls))
  put_levels = omega (arith, length-take (length ls - at) (drop at ls), length-drop at ls, F.fits, F.all_is, F.levels_long)

  -- zeros over the span clear the row
  pub row_cleared : (t u : List ℕ) → t ≡ replicate (length (take (high - low) (drop low row))) 0 → u ≡ take low row ++ (t ++ drop (high - low) (drop low row))
      → u ≡ replicate (length row) 0
  row_cleared t u e q =
      let l : length (take (high - low) (drop low row)) ≡ high - low = simp (length-take, length-drop) (omega (arith, F.ordered, F.span_in_row)) in
      q ∙ rw (e, l) (zeros_over low high row F.within F.ordered F.span_in_row)

-- l written over the words from `at` on
pub put_is : (at : ℕ) (l s t u : List ℕ) → t ≡ over l (take (length s - at) (drop at s)) → u ≡ take at s ++ (t ++ drop (length s - at) (drop at s)) → u ≡ put at l s
unfolding put
put_is at l s t u e q =
    let h : length (drop at s) ≤ length s - at = omega (arith, length-drop at s) in
    q ∙ rw (drop_of_length-le (drop at s) h, append-nil) (ap (λ (x : List ℕ). take at s ++ x) (e ∙ rw (take_all (length s - at) (drop at s) h)))
