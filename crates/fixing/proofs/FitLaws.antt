-- What a matrix and flags that fit give to the work on each row.
-- Assumes nothing.
use mathlib.Core.Path.{◌≡◌}
use mathlib.Core.List.{List}
use Prim.Native.Nat.{ℕ, ◌+◌, ◌-◌, ◌*◌, ◌<◌}
use lib.ListN.{get_or, take, drop}
use Rattle.patterns.specs.Pattern.{rows_of}
use Rattle.matrix.specs.Fits.{MatrixFits}
use Rattle.matrix.proofs.FitLaws.{turn_fits}
use Rattle.fixing.specs.Steps.{RowFits}

-- `long` is the length of the values as they are then
pub row_fits : {n : ℕ} {o cs : List ℕ} {values diagonal : ℕ} → MatrixFits n o cs values diagonal → (i : ℕ) → i < rows_of o → (a b : ℕ)
    → a ≡ get_or o i 0 → b ≡ get_or o (i + 1) 0 → (long flags : ℕ) → long ≡ values → flags ≡ n * rows_of o
    → RowFits n i (take (b - a) (drop a cs)) a long flags
row_fits fit i h a b p q long flags kept same =
    let turn = turn_fits fit i h a b p q flags flags same same in
    record { stored = rw kept turn.entries.stored; here = turn.here; seen = turn.entries.seen }
