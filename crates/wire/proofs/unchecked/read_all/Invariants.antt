-- `unchecked::read_all` meets its promise: after i turns the first i items are read.
-- Assumes nothing.
use mathlib.Core.Path.{◌≡◌}
use lib.ListN.{length}
use Rattle.base.specs.Each.{each_to}
use Rattle.wire.proofs.LoopLaws.{word_at}
use Rattle.wire.proofs.unchecked.read_all.Given as goal

abbrev pub invariant-loop-i : goal.invariant-loop-i
invariant-loop-i g l =
    (length l.items ≡ length l.initial.items)
    × (l.items ≡ each_to (λ j _. g.T.FromWord.of_word (word_at g.T.FromWord.SIZE l.bytes j)) l.i l.initial.items)
