-- `unchecked::are_four_taken` meets its promise: one column after the other, and the first that has no stamp decides.
-- Assumes nothing.
use mathlib.Core.Path.{◌≡◌}
use Prim.Native.Nat.{◌+◌}
use native.Mathlib.Omega.{arith}
use Rattle.copy_check.proofs.StampLaws.{takes_on, takes_to}
use Rattle.copy_check.proofs.unchecked.are_four_taken.Goals as goal

pub returns : goal.returns
returns c =
    let a = c.args in
    let two : (a.k + 1) + 1 ≡ a.k + 2 = omega arith in
    let three : (a.k + 2) + 1 ≡ a.k + 3 = omega arith in
    let four : (a.k + 3) + 1 ≡ a.k + 4 = omega arith in (
      c.is_next_taken-4.ensures.0,
      λ e.
          takes_on
          (takes_on (takes_on (c.is_next_taken.ensures.1 c.if-not-is_next_taken.false) (takes_to two (c.is_next_taken-2.ensures.1 c.if-not-is_next_taken-2.false)))
          (takes_to three (c.is_next_taken-3.ensures.1 c.if-not-is_next_taken-3.false)))
          (takes_to four (c.is_next_taken-4.ensures.1 e)),
    )
