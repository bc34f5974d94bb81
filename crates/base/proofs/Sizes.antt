-- Places in a list of m parts of d values each, as the blocks of a matrix and the rows of a vector are.
-- Assumes nothing.
use Prim.Native.Nat.{ℕ, ◌+◌, ◌*◌, ◌≤◌, ◌<◌}
use native.Mathlib.Nat.{mul-le-mul_left, mul-le-mul_right, mul-pos}
use native.Mathlib.Omega.{arith}

-- part e is within the list
pub part_fits : (d e m l : ℕ) → e < m → d * m ≤ l → d * e + d ≤ l
part_fits d e m l below fits = omega (arith, mul-le-mul_left d below)

-- there are no more parts than values
pub few_parts : (d m l : ℕ) → 1 ≤ d → d * m ≤ l → m ≤ l
few_parts d m l some fits = omega (arith, mul-le-mul_right m some)

pub square_pos : (d : ℕ) → 1 ≤ d → 1 ≤ d * d
square_pos d some = mul-pos some some
