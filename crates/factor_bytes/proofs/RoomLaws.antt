-- Room for the words of a factor: parts of a room that holds it are filled by its bytes.
-- Assumes nothing.
use mathlib.Core.Path.{◌≡◌}
use Prim.Native.Nat.{ℕ, ◌/◌}
use Rattle.matrix_bytes.proofs.WayLaws.{fills, filled}
use Rattle.factor_bytes.specs.Rooms.{HeldFactor, FilledFactor}

pub filled_factor : (rows entries dim o c s d v offs cols cuts diag vals : ℕ) → HeldFactor rows entries dim o c s d v → offs ≡ o / 4 → cols ≡ c / 4 → cuts ≡ s / 4 → diag ≡ d / 8
    → vals ≡ v / 8 → FilledFactor dim offs cols cuts diag vals o c s d v
filled_factor rows entries dim o c s d v offs cols cuts diag vals held eo ec es ed ev =
    record { matrix = filled rows entries dim o c v d offs cols vals diag held.matrix eo ec ev ed; of_splits = fills 4 rows s cuts held.of_splits es }
