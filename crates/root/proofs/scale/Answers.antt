-- `root::scale` meets its contract, by the laws of `proofs/Scales.antt`.
-- Assumes nothing.
use mathlib.Core.Path.{ap, ◌∙◌}
use Prim.Native.Nat.{ℕ, ◌+◌, ◌-◌, ◌*◌, ◌/◌, ◌%◌, ◌^◌}
use native.Mathlib.Omega.{arith}
use borrow.Author.Rules.{rules}
use Rattle.root.proofs.Scales.{subnormal_units, normal_units, even_power, odd_power}
use Rattle.root.proofs.scale.Goals as goal

pub returns-then-bits-lt-LEADING : goal.returns-then-bits-lt-LEADING
returns-then-bits-lt-LEADING c =
    let bits = c.args.bits in
    record { value = ap (λ (x : ℕ). x * 2 ^ 52) (subnormal_units bits (omega arith)) ∙ c.scale_subnormal.ensures.value; least = search rules; most = search rules; short = search rules }

pub returns-then-power-eq0 : goal.returns-then-power-eq0
returns-then-power-eq0 c =
    let bits = c.args.bits in
    record {
      value = normal_units bits (omega arith) ∙ even_power (bits % 2 ^ 52 + 2 ^ 52) (bits / 2 ^ 52 - 1 + 52) (omega arith);
      least = search rules;
      most = search rules;
      short = omega arith;
    }

pub returns : goal.returns
returns c =
    let bits = c.args.bits in
    record {
      value = normal_units bits (omega arith) ∙ odd_power (bits % 2 ^ 52 + 2 ^ 52) (bits / 2 ^ 52 - 1 + 52) (omega arith);
      least = search rules;
      most = search rules;
      short = omega arith;
    }
