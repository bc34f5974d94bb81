-- `unchecked::upper_end` meets its promise: the end of the row is read.
-- Assumes nothing.
use Prim.Native.Nat.{◌+◌}
use native.Mathlib.Omega.{arith}
use lib.ListN.{get_or}
use Rattle.reducing.proofs.unchecked.upper_end.Goals as goal

pub overflow_cast-result : goal.overflow_cast-result
overflow_cast-result c =
    let a = c.args in
    record { fits = omega (arith, c.shared_slice_known-2-1.given (get_or a.columns.now a.e 0 + 1)) }
