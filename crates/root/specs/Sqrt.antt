-- The square root as a function, for contracts that are one equation: `sqrt f x`, the one r with `Rooted f x r` (`proofs/Meaning.antt`).
-- It computes, digit by digit and in whole numbers, so an example is a computation.
use Rattle.std.specs.Prelude.{true, false, cond, ℕ, zero, suc, ◌+◌, ◌-◌, ◌*◌, ◌/◌, ◌^◌, leb, Float}
use Rattle.std.specs.Float.{nan, inf, fin, Format}
use Rattle.std.specs.Float.Ieee.{prec, low, up, down, size, units}

-- the whole part of the root of n, for an n below 4 ^ k: twice that of n's quarter, or one more
unfoldable pub whole_root : ℕ → ℕ → ℕ
whole_root zero n = 0
whole_root (suc k) n = let q = 2 * whole_root k (n / 4) in cond (leb ((q + 1) * (q + 1)) n) (q + 1) q

-- the whole number nearest to the root of n: no root lies in the middle of two, since (q + 1/2)² = q² + q + 1/4
unfoldable pub nearest_root : ℕ → ℕ → ℕ
unfolding whole_root
nearest_root k n = let q = whole_root k n in cond (leb n (q * q + q)) q (q + 1)

-- Of a positive number t is x over the square of f's smallest value, so that t's root counts smallest values. It keeps `prec` binary digits and drops w.
unfoldable pub sqrt : Format → Float → Float
unfolding nearest_root size units
sqrt f nan = nan
sqrt f (inf true) = nan
sqrt f (inf false) = inf false
sqrt f (fin s zero e) = fin s zero e
sqrt f (fin true (suc m) e) = nan
sqrt f (fin false (suc m) e) =
    let t = suc m * up e * 2 ^ low f / down e * 2 ^ low f in
    let w = suc (size t) / 2 - prec f in
    units f false (nearest_root (prec f) (t / 4 ^ w)) w
