-- `unchecked::read_all` meets its promise: after i turns the first i items are read.
-- Assumes nothing.
use mathlib.Core.Path.{refl, sym, ◌∙◌}
use Prim.Native.Nat.{◌<◌}
use native.Mathlib.Omega.{arith}
use lib.ListN.{length}
use borrow.Author.Rules.{rules}
use Rattle.base.proofs.Each.{each_none, each_more, each_all}
use Rattle.wire.proofs.ByteLaws.{whole_read}
use Rattle.wire.proofs.LoopLaws.{word_at, read_words}
use Rattle.wire.proofs.unchecked.read_all.Goals as goal

pub loop-i-init : goal.loop-i-init
loop-i-init g c = (refl, sym (each_none _ _))

pub loop-i-preserved : goal.loop-i-preserved
loop-i-preserved g c =
    let a = c.args in
    let h : c.loop-i.i < length a.items.now = omega arith in
    (search rules, rw (c.loop-i.invariant.1, c.read.ensures, c.SIZE.ensures) (each_more (λ j _. g.T.FromWord.of_word (word_at g.T.FromWord.SIZE a.bytes.now j)) c.loop-i.i a.items.now c.read.result h))

pub returns : goal.returns
returns g c =
    let a = c.args in
    c.loop-i.invariant.1 ∙ each_all _ _ _ (omega arith) ∙ read_words g.T.FromWord.of_word g.T.FromWord.SIZE a.bytes.now a.items.now
    ∙ whole_read g.T.FromWord.of_word g.T.FromWord.SIZE (length a.items.now) a.bytes.now g.met.T.FromWord.has_bytes c.requires
