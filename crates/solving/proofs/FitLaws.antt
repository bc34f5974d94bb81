-- What a factor that fits, and a vector with N values to each of its rows, give to the work on a row.
-- Assumes nothing.
use mathlib.Core.Path.{◌≡◌}
use mathlib.Core.List.{List}
use Prim.Native.Nat.{ℕ, ◌+◌, ◌-◌, ◌*◌, ◌≤◌, ◌<◌}
use native.Mathlib.Nat.{mul-le-mul_left}
use native.Mathlib.Omega.{arith}
use lib.ListN.{length, get_or, take, drop, length-take, length-drop}
use lib.Seq.{get_or-take, get_or-drop}
use lib.Ieee.{Float}
use Rattle.base.proofs.Sizes.{part_fits}
use Rattle.patterns.specs.Pattern.{rows_of}
use Rattle.matrix.specs.Fits.{RowFits}
use Rattle.factor_check.specs.Fits.{FactorFits}
use Rattle.factor_check.proofs.FitLaws.{pivot_below, diagonal_within}
use Rattle.solving.specs.Fits.{PartFits, Known}

module _ {n : ℕ} {o cs s : List ℕ} {diagonal values x : ℕ} (fit : FactorFits n o cs s diagonal values) (of-vec : x ≡ n * rows_of o) where
  -- a part of the columns, from place a to below b
  pub part_row_fits : (a b : ℕ) → a ≤ b → b ≤ length cs → RowFits n (take (b - a) (drop a cs)) a values x
  part_row_fits a b up within =
      let long : length (take (b - a) (drop a cs)) ≡ b - a = simp (length-take, length-drop) (omega arith) in
      let whole : a + (b - a) ≡ b = omega arith in
      record {
        stored = rw (long, whole) (omega (arith, fit.matrix.of_values, mul-le-mul_left (n * n) within));
        seen = λ k l.
            rw (get_or-take (b - a) (drop a cs) k 0 (omega (arith, long, l)), get_or-drop a cs k 0)
            (part_fits n (get_or cs (a + k) 0) (rows_of o) x (pivot_below fit (a + k) (omega (arith, long, l))) (omega (arith, of-vec)));
      }

  module _ (i : ℕ) (h : i < rows_of o) where
    pub row_here : n * i + n ≤ x
    row_here = part_fits n i (rows_of o) x h (omega (arith, of-vec))

    pub part_fit : (a b : ℕ) → a ≤ b → b ≤ length cs → PartFits n i (take (b - a) (drop a cs)) a diagonal values x
    part_fit a b up within = record { entries = part_row_fits a b up within; here = row_here; of_diagonal = diagonal_within fit i h }

-- at first no row is at hand: there is none after the last
pub none_at_hand : (n rows : ℕ) (known x : List Float) → 1 ≤ n → length x ≡ n * rows → Known n rows known x
none_at_hand n rows known x some long past = absurd (omega (arith, past, long, some))

-- a part without its last entry or without its first, and the block of an entry
module _ {n : ℕ} {part : List ℕ} {first values x : ℕ} (fit : RowFits n part first values x) where
  pub without_last : (last : ℕ) → last + 1 ≡ length part → RowFits n (take last part) first values x
  without_last last whole =
      let long : length (take last part) ≡ last = simp length-take (omega arith) in
      let fewer : first + last ≤ first + length part = omega arith in
      record {
        stored = rw long (omega (arith, fit.stored, mul-le-mul_left (n * n) fewer));
        seen = λ k l. rw (get_or-take last part k 0 (omega (arith, long, l))) (fit.seen k (omega (arith, long, l)));
      }

  pub without_first : 1 ≤ length part → RowFits n (drop 1 part) (first + 1) values x
  without_first some =
      let long : length (drop 1 part) ≡ length part - 1 = simp length-drop in
      let whole : first + 1 + (length part - 1) ≡ first + length part = omega arith in
      record {
        stored = rw (long, whole) fit.stored;
        seen = λ k l. rw (get_or-drop 1 part k 0) (fit.seen (1 + k) (omega (arith, long, l)));
      }

  pub entry_stored : (k : ℕ) → k < length part → n * n * (first + k) + n * n ≤ values
  entry_stored k h = part_fits (n * n) (first + k) (first + length part) values (omega arith) fit.stored
