-- The way from bytes to bytes: the copy of the decoded words is that of the bytes.
-- Assumes nothing.
use mathlib.Core.Path.{◌≡◌, refl}
use mathlib.Core.List.{List, ◌++◌}
use mathlib.Core.Bool.{false, ◌||◌}
use Prim.Native.Nat.{ℕ, ◌/◌}
use lib.ListN.{length}
use lib.Ieee.{Float, binary64}
use Rattle.answers.specs.Numbers.{Answer}
use Rattle.answers.specs.Numbers.{number_of}
use Rattle.answers.specs.Limits.{outside_of}
use Rattle.answers.specs.Promise.{Ends}
use Rattle.patterns.specs.Checks.{too_large}
use Rattle.factors.specs.Copy.{copied_rows}
use Rattle.copying.specs.Checks.{copy_checks}
use Rattle.wire.specs.Bytes.{values_in, bytes_of}
use Rattle.wire.specs.Words.{indexes_in}
use Rattle.wire.proofs.ByteLaws.{length_values}
use Rattle.numbered.proofs.NumberedLaws.{once}
use Rattle.numbered_factors.specs.Calls.{copy_dim_checks}
use Rattle.matrix_bytes.specs.Rooms.{written}
use Rattle.matrix_bytes.proofs.WayLaws.{both_encoded}
use Rattle.factor_bytes.specs.Rooms.{Decoded}

pub copied : (dim : ℕ) (st en ad av o c s d v : List ℕ) (heads cells : List ℕ) (pivots blocks : List Float) (offs cols cuts : List ℕ) (diag vals left left' : List Float)
    (answer : Answer) (out out' : List ℕ) → outside_of 1 3 dim ≡ false → heads ≡ indexes_in st → cells ≡ indexes_in en → pivots ≡ values_in binary64 ad → blocks ≡ values_in binary64 av
    → Decoded binary64 offs cols cuts diag vals o c s d v
    → Ends {A = List Float × List Float} (copy_dim_checks dim (length heads) (length cells) (length offs) (length cols)
    ++ copy_checks dim heads cells (length pivots) (length blocks) offs cols cuts (length diag) (length vals)) answer
    (pivots, copied_rows binary64 dim heads cells blocks offs cols) (diag, vals) (left, left')
    → out ≡ written binary64 (number_of answer) left d → out' ≡ written binary64 (number_of answer) left' v
    → Ends {A = List ℕ × List ℕ} (copy_checks dim (indexes_in st) (indexes_in en) (length ad / 8) (length av / 8) (indexes_in o) (indexes_in c) (indexes_in s) (length d / 8) (length v / 8)) answer
    (bytes_of binary64 (values_in binary64 ad), bytes_of binary64 (copied_rows binary64 dim (indexes_in st) (indexes_in en) (values_in binary64 av) (indexes_in o) (indexes_in c))) (d, v) (out, out')
copied dim st en ad av o c s d v heads cells pivots blocks offs cols cuts diag vals left left' answer out out' inside eh ec ep eb read end wrote wrote' =
    let end' = once _ _ _ _ _ (too_large (length heads) (length cells) || too_large (length offs) (length cols)) (outside_of 1 3 dim) inside end in
    rw (← length_values binary64 ad, ← length_values binary64 av, ← length_values binary64 d, ← length_values binary64 v)
    (both_encoded binary64 _ answer refl _ _ left _ _ left' d out v out' (rw (eh, ec, ep, eb, read.offsets_are, read.columns_are, read.splits_are, read.diagonal_is, read.values_are) at end') wrote wrote')
