-- `unchecked::write_all` meets its promise: after i turns the bytes of the first i items are written.
-- Assumes nothing.
use mathlib.Core.Path.{◌≡◌}
use mathlib.Core.List.{map}
use Prim.Native.Nat.{◌≤◌}
use lib.ListN.{length}
use Rattle.wire.proofs.LoopLaws.{written}
use Rattle.wire.proofs.unchecked.write_all.Given as goal

abbrev pub invariant-loop-i : goal.invariant-loop-i
invariant-loop-i g l =
    (length l.bytes ≡ length l.initial.bytes) × (l.i ≤ length l.items)
    × (l.bytes ≡ written g.T.ToWord.SIZE (map g.T.ToWord.word l.items) l.i l.initial.bytes)
