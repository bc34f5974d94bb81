-- `wrong_length` meets its promise: two numbers below 2^32 have a product below 2^64.
-- Assumes nothing.
use Prim.Native.Nat.{◌≤◌}
use native.Mathlib.Nat.{mul-le-mul_left}
use native.Mathlib.Omega.{arith}
use Rattle.answers.proofs.wrong_length.Goals as goal

pub overflow_mul-result : goal.overflow_mul-result
overflow_mul-result c =
    let small : c.args.n ≤ 4294967295 = omega arith in
    record { fits = omega (arith, mul-le-mul_left c.args.dim small) }
