-- `unchecked::write_low` meets its promise: after k turns the first k bytes are in their places, and what is left of the word has the others.
-- Assumes nothing.
use mathlib.Core.Path.{◌≡◌, refl}
use native.Mathlib.Omega.{arith}
use native.Mathlib.Numerals.{add-one}
use lib.ListN.{length}
use lib.Seq.{paste-zero, paste-suc}
use borrow.Author.Rules.{rules}
use Rattle.wire.specs.Bytes.{bytes_of_word}
use Rattle.wire.proofs.ByteLaws.{length_word}
use Rattle.wire.proofs.LoopLaws.{rest_next, rest_all}
use Rattle.wire.proofs.unchecked.write_low.Goals as goal

pub loop-k-init : goal.loop-k-init
loop-k-init c =
    let a = c.args in
    (refl, search rules, paste-zero a.bytes.now a.at (bytes_of_word a.size a.word), rest_all a.size a.word)

pub loop-k-preserved : goal.loop-k-preserved
loop-k-preserved c =
    let a = c.args in
    let l = c.loop-k in
    let word = bytes_of_word a.size a.word in
    let long : length word ≡ a.size = length_word a.size a.word in
    let next = rest_next a.size l.k l.rest word l.invariant.3 (omega arith) (omega arith) in (
      search rules,
      omega arith,
      rw (l.invariant.2, ← next.0, add-one) (paste-suc a.bytes.now a.at word l.k 0 (omega arith) (omega arith)),
      next.1,
    )

pub returns : goal.returns
returns c =
    let e : c.loop-k.k ≡ c.args.size = omega arith in
    rw e at c.loop-k.invariant.2
