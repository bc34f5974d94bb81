-- What a matrix that fits gives to the work on each of its rows.
-- Assumes nothing.
use mathlib.Core.Path.{◌≡◌, ap, ◌∙◌}
use mathlib.Core.List.{List}
use mathlib.Core.Bool.{true}
use Prim.Native.Nat.{ℕ, ◌+◌, ◌-◌, ◌*◌, ◌≤◌, ◌<◌}
use native.Mathlib.Nat.{mul-le-mul_left}
use native.Mathlib.Omega.{arith}
use lib.ListN.{length, get_or, take, drop}
use lib.Ieee.{Float, Format}
use Rattle.base.proofs.Sizes.{part_fits}
use Rattle.patterns.specs.Pattern.{rows_of, row_of, valid_entries}
use Rattle.patterns.proofs.Use.{pattern_entries, valid_offsets_lem, row_ends, row_length, row_column_below}
use Rattle.matrix.specs.Product.{mult_row}
use Rattle.matrix.specs.Steps.{scale_add_row_at, scaled_from}
use Rattle.matrix.specs.Fits.{RowFits, TurnFits, MatrixFits}
use Rattle.matrix.proofs.ScaleLaws.{row_scaled}

-- the part of the columns that is handed on is the row
pub row_is : (o cs : List ℕ) (i a b : ℕ) → a ≡ get_or o i 0 → b ≡ get_or o (i + 1) 0 → take (b - a) (drop a cs) ≡ row_of o cs i
unfolding row_of
row_is o cs i a b p q = cc

module _ {n : ℕ} {o cs : List ℕ} {values diagonal : ℕ} (fit : MatrixFits n o cs values diagonal) where
  entries : valid_entries o cs ≡ true
  entries = pattern_entries o cs fit.pattern

  module _ (i : ℕ) (h : i < rows_of o) (a b : ℕ) (p : a ≡ get_or o i 0) (q : b ≡ get_or o (i + 1) 0) where
    pub ends_of : (a ≤ b) × (b ≤ length cs)
    ends_of = let e = row_ends o cs (valid_offsets_lem o cs entries) i h in (omega arith, omega arith)

    row_fits : (x : ℕ) → x ≡ n * rows_of o → RowFits n (take (b - a) (drop a cs)) a values x
    row_fits x same =
        let e = ends_of in
        let long : a + length (row_of o cs i) ≡ b = omega (arith, row_length o cs (valid_offsets_lem o cs entries) i h) in
        record {
          stored = rw (row_is o cs i a b p q, long) (omega (arith, fit.of_values, mul-le-mul_left (n * n) e.1));
          seen =
              rw (row_is o cs i a b p q)
              (λ k l. part_fits n (get_or (row_of o cs i) k 0) (rows_of o) x (row_column_below o cs entries i k h l) (omega (arith, same)));
        }

    pub turn_fits : (x y : ℕ) → x ≡ n * rows_of o → y ≡ n * rows_of o → TurnFits n i (take (b - a) (drop a cs)) a values diagonal x y
    turn_fits x y of_x of-y =
        record {
          entries = row_fits x of_x;
          here = part_fits n i (rows_of o) y h (omega (arith, of-y));
          of_x = part_fits n i (rows_of o) x h (omega (arith, of_x));
          of_diagonal = part_fits (n * n) i (rows_of o) diagonal h (omega (arith, fit.of_diagonal));
        }

-- a turn, from the part that is handed on: y with what is left of it scaled, to which row i of the matrix is added
pub turn : (f : Format) (n : ℕ) (beta alpha : Float) (o cs : List ℕ) (values diagonal x : List Float) (i a b : ℕ) (y z : List Float)
    → a ≡ get_or o i 0 → b ≡ get_or o (i + 1) 0 → n * i + n ≤ length y → z ≡ scale_add_row_at f n beta alpha (take (b - a) (drop a cs)) a values diagonal x i y
    → scaled_from f beta (n * (i + 1)) z ≡ mult_row f n alpha o cs values diagonal x i (scaled_from f beta (n * i) y)
unfolding mult_row
turn f n beta alpha o cs values diagonal x i a b y z p q fits made =
    ap (scaled_from f beta (n * (i + 1))) made
    ∙ row_scaled f n beta alpha (take (b - a) (drop a cs)) a values diagonal x i y fits ∙ rw (row_is o cs i a b p q, p)
