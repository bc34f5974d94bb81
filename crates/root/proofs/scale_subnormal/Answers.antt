-- `root::scale_subnormal` meets its contract. The invariant: digits * 4 ^ fours stays bits * 2 ^ 52, so that fours is above 0 as long as digits is below 2 ^ 52.
-- Assumes nothing.
use mathlib.Core.Path.{◌∙◌}
use Prim.Native.Nat.{◌<◌}
use native.Mathlib.Omega.{arith}
use Rattle.root.proofs.Scales.{room_left, two_up}
use Rattle.root.proofs.scale_subnormal.Goals.{In-loop-digits}
use Rattle.root.proofs.scale_subnormal.Goals as goal

above : (c : In-loop-digits) → 0 < c.loop-digits.fours
above c = room_left c.args.bits c.loop-digits.digits c.loop-digits.fours c.loop-digits.invariant.2 (omega arith) (omega arith)

pub overflow_sub-fours : goal.overflow_sub-fours
overflow_sub-fours c = omega (arith, above c)

pub loop-digits-smaller : goal.loop-digits-smaller
loop-digits-smaller c = omega (arith, above c)

pub loop-digits-preserved : goal.loop-digits-preserved
loop-digits-preserved c = (omega arith, omega arith, c.loop-digits.invariant.2 ∙ two_up c.loop-digits.digits c.loop-digits.fours (above c))
