-- The way from bytes to bytes: the solve of the decoded words is that of the bytes.
-- Assumes nothing.
use mathlib.Core.Path.{◌≡◌, refl}
use mathlib.Core.List.{List, ◌++◌}
use mathlib.Core.Bool.{false}
use Prim.Native.Nat.{ℕ, ◌/◌}
use lib.ListN.{length}
use lib.Ieee.{Float, binary64}
use Rattle.answers.specs.Numbers.{Answer}
use Rattle.answers.specs.Numbers.{number_of}
use Rattle.answers.specs.Limits.{outside_of}
use Rattle.answers.specs.Promise.{Ends}
use Rattle.patterns.specs.Checks.{too_large}
use Rattle.factors.specs.Solve.{solve}
use Rattle.precondition.specs.Checks.{solve_checks}
use Rattle.wire.specs.Bytes.{values_in, bytes_of}
use Rattle.wire.specs.Words.{indexes_in}
use Rattle.wire.proofs.ByteLaws.{length_values}
use Rattle.numbered.specs.Checks.{dim_checks}
use Rattle.numbered.proofs.NumberedLaws.{once}
use Rattle.matrix_bytes.specs.Rooms.{written}
use Rattle.matrix_bytes.proofs.WayLaws.{encoded}
use Rattle.factor_bytes.specs.Rooms.{Decoded}

pub solved : (dim : ℕ) (o c s d v vec : List ℕ) (offs cols cuts : List ℕ) (diag vals x left : List Float) (answer : Answer) (out : List ℕ)
    → outside_of 1 3 dim ≡ false → Decoded binary64 offs cols cuts diag vals o c s d v → x ≡ values_in binary64 vec
    → Ends (dim_checks dim (length offs) (length cols) ++ solve_checks dim offs cols cuts (length diag) (length vals) (length x)) answer
    (solve binary64 dim (record { offsets = offs; columns = cols; splits = cuts }) (record { diagonal = diag; values = vals }) x) x left
    → out ≡ written binary64 (number_of answer) left vec
    → Ends (solve_checks dim (indexes_in o) (indexes_in c) (indexes_in s) (length d / 8) (length v / 8) (length vec / 8)) answer
    (bytes_of binary64 (solve binary64 dim (record { offsets = indexes_in o; columns = indexes_in c; splits = indexes_in s }) (record { diagonal = values_in binary64 d; values = values_in binary64 v }) (values_in binary64 vec))) vec out
solved dim o c s d v vec offs cols cuts diag vals x left answer out inside read ex end wrote =
    let end' = once _ _ _ _ _ (too_large (length offs) (length cols)) (outside_of 1 3 dim) inside end in
    rw (← length_values binary64 d, ← length_values binary64 v, ← length_values binary64 vec)
    (encoded binary64 _ answer refl _ _ left vec out (rw (read.offsets_are, read.columns_are, read.splits_are, read.diagonal_is, read.values_are, ex) at end') wrote)
