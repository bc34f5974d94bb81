-- From the whole part of a root to the whole number nearest to the root, and how many digits that has.
-- Assumes nothing.
use mathlib.Core.Path.{◌≡◌}
use Prim.Native.Nat.{ℕ, suc, ◌+◌, ◌-◌, ◌*◌, ◌^◌, ◌≤◌, ◌<◌}
use native.Mathlib.Nat.{mul-le-mul, lt_of_not-le, le_of_suc-le-suc}
use native.Mathlib.Omega.{arith}
use Rattle.root.specs.Integers.{FloorRoot, NearestRoot}

pub rounds_up : (n root left : ℕ) → FloorRoot n root left → root < left → NearestRoot n (root + 1)
rounds_up n root left h l =
    let e = h.whole in
    let s = h.small in
    record { above = omega arith; below = omega arith }

pub rounds_down : (n root left : ℕ) → FloorRoot n root left → 0 < root → left ≤ root → NearestRoot n root
rounds_down n root left h p l =
    let e = h.whole in
    let s = h.small in
    record { above = omega arith; below = omega arith }

-- a number that has the square of h in it has a root of h or more
pub root_reaches : (h n root left : ℕ) → FloorRoot n root left → h * h ≤ n → h ≤ root
root_reaches h n root left f l =
    let e = f.whole in
    let s = f.small in
    le_of_suc-le-suc
    (lt_of_not-le (λ (g : suc root ≤ h).
    let k : suc root * suc root ≤ h * h = mul-le-mul g g in
    omega arith))

-- (2 ^ 53 - 1)² + 2 ^ 53 - 1 is more than a * 2 ^ 52 can be, so a root with 53 ones is not rounded up
pub no_carry : (a root left : ℕ) → FloorRoot (a * 2 ^ 52) root left → a + 1 < 2 ^ 54 → root < left → root < 2 ^ 53 → root + 1 < 2 ^ 53
no_carry a root left h l u b =
    let s = h.small in
    lt_of_not-le (λ (g : 2 ^ 53 ≤ root + 1).
    let k : root ≡ 2 ^ 53 - 1 = omega arith in
    let e : (2 ^ 53 - 1) * (2 ^ 53 - 1) + left ≡ a * 2 ^ 52 = rw k at h.whole in
    omega arith)
