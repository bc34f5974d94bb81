-- `root::scale_subnormal` meets its contract. The invariant: digits * 4 ^ fours stays bits * 2 ^ 52, so that fours is above 0 as long as digits is below 2 ^ 52.
-- Assumes nothing.
use mathlib.Core.Path.{◌≡◌}
use Prim.Native.Nat.{◌+◌, ◌*◌, ◌^◌, ◌≤◌, ◌<◌}
use Rattle.root.proofs.scale_subnormal.Given as goal

abbrev pub invariant-loop-digits : goal.invariant-loop-digits
invariant-loop-digits l = (l.fours ≤ 26) × (l.digits + 1 < 2 ^ 54) × (l.bits * 2 ^ 52 ≡ l.digits * 4 ^ l.fours)

abbrev pub decreases-loop-digits : goal.decreases-loop-digits
decreases-loop-digits l = l.fours
