-- `unchecked::first_above` meets its promise: no column that was passed exceeds i.
-- Assumes nothing.
use mathlib.Core.Path.{◌≡◌}
use Prim.Native.Nat.{◌+◌}
use lib.Dec.{ltb}
use lib.ListN.{drop}
use Rattle.base.specs.First.{first_in}
use Rattle.ilu0.proofs.unchecked.first_above.Given as goal

abbrev pub invariant-loop-place : goal.invariant-loop-place
invariant-loop-place l = first_in (λ c. ltb l.i c) l.row ≡ l.place + first_in (λ c. ltb l.i c) (drop l.place l.row)
