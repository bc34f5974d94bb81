-- `unchecked::write_all` meets its promise: after i turns the bytes of the first i items are written.
-- Assumes nothing.
use mathlib.Core.Path.{◌≡◌, refl, sym, ap, ◌∙◌}
use mathlib.Core.List.{map}
use Prim.Native.Nat.{◌*◌}
use native.Mathlib.Omega.{arith}
use lib.ListN.{length, length-map, get_or-map}
use borrow.Author.Rules.{rules}
use Rattle.wire.proofs.LoopLaws.{write_none, write_turn, written_all}
use Rattle.wire.proofs.unchecked.write_all.Goals as goal

pub loop-i-init : goal.loop-i-init
loop-i-init g c = (refl, search rules, write_none g.T.ToWord.SIZE (map g.T.ToWord.word c.args.items.now) c.args.bytes.now)

pub loop-i-preserved : goal.loop-i-preserved
loop-i-preserved g c =
    let size = g.T.ToWord.SIZE in
    let items = c.args.items.now in
    let words = map g.T.ToWord.word items in
    let same : length words ≡ length items = length-map items g.T.ToWord.word in
    let long : length c.args.bytes.now ≡ size * length words = rw same c.requires in (
      search rules,
      omega arith,
      write_turn size words c.loop-i.i (g.T.ToWord.word c.index-items-i.result) c.args.bytes.now c.loop-i.bytes _ (g.T.ToWord.word c.index-items-i.result) (omega arith) long c.loop-i.invariant.2
          (ap g.T.ToWord.word c.index-items-i.is ∙ sym (get_or-map g.T.ToWord.word items c.loop-i.i c.index-items-i.result))
          (rw c.SIZE.ensures at c.write.ensures),
    )

pub returns : goal.returns
returns g c =
    let items = c.args.items.now in
    let words = map g.T.ToWord.word items in
    let same : length words ≡ length items = length-map items g.T.ToWord.word in
    let e : c.loop-i.i ≡ length words = omega arith in
    rw e at c.loop-i.invariant.2 ∙ written_all g.T.ToWord.SIZE words c.args.bytes.now (rw same c.requires)
