-- `root::root_bits` meets its contract: the record names the exponent, the number whose root is taken, and that root.
-- Assumes nothing.
use mathlib.Core.Path.{refl}
use Prim.Native.Nat.{◌+◌, ◌*◌, ◌^◌}
use native.Mathlib.Omega.{arith}
use lib.Ieee.{binary64}
use borrow.Author.Rules.{rules}
use Rattle.root.specs.Integers.{units_of_bits}
use Rattle.root.proofs.Scales.{square_value}
use Rattle.root.proofs.root_bits.Goals as goal

pub returns : goal.returns
returns c =
    let s = c.scale-scaled in
    let bits = c.args.bits in
    let root = c.nearest_root-root in
    record {
      exponent = s.result.fours + 485;
      square = s.result.digits * 2 ^ 52;
      digits = root.result;
      made = refl;
      value = square_value (units_of_bits binary64 bits) s.result.digits s.result.fours s.ensures.value;
      near = root.ensures.0;
      least = search rules;
      most = search rules;
      wide = omega (arith, s.ensures.least);
      finite = omega (arith, s.ensures.short, root.ensures.2);
    }
