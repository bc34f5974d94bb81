-- `unchecked::write_low` meets its promise: after k turns the first k bytes are in their places, and what is left of the word has the others.
-- Assumes nothing.
use mathlib.Core.Path.{◌≡◌}
use Prim.Native.Nat.{◌-◌, ◌≤◌}
use lib.ListN.{length, drop}
use lib.Seq.{paste}
use Rattle.wire.specs.Bytes.{bytes_of_word}
use Rattle.wire.proofs.unchecked.write_low.Given as goal

abbrev pub invariant-loop-k : goal.invariant-loop-k
invariant-loop-k l =
    (length l.bytes ≡ length l.initial.bytes) × (l.k ≤ l.size) × (l.bytes ≡ paste l.initial.bytes l.at (bytes_of_word l.size l.word) l.k)
    × (bytes_of_word (l.size - l.k) l.rest ≡ drop l.k (bytes_of_word l.size l.word))
