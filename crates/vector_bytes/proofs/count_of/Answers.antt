-- `count_of` meets its promise: 3 * 4096 is the most.
-- Assumes nothing.
use mathlib.Core.Path.{refl}
use Prim.Native.Nat.{◌*◌, ◌≤◌}
use native.Mathlib.Nat.{mul-le-mul}
use native.Mathlib.Omega.{arith}
use Rattle.vector_bytes.proofs.count_of.Goals as goal

pub overflow_mul-result : goal.overflow_mul-result
overflow_mul-result c =
    let few : c.args.dim * c.args.n ≤ 12288 = mul-le-mul c.requires.0 c.requires.1 in
    record { fits = omega (arith, few) }

pub returns : goal.returns
returns c =
    let few : c.args.dim * c.args.n ≤ 12288 = mul-le-mul c.requires.0 c.requires.1 in
    (refl, few)
