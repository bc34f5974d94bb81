-- `unchecked::write_rows` meets its promise: before row i the rows below it are written.
-- Assumes nothing.
use mathlib.Core.Path.{refl}
use native.Mathlib.Omega.{arith}
use Rattle.full.proofs.RowLaws.{roomy_as, going_start, going_fits, going_more, going_end}
use borrow.Author.Rules.{rules}
use Rattle.full.proofs.unchecked.write_rows.Goals as goal

pub loop-i-init : goal.loop-i-init
loop-i-init c =
    let a = c.args in
    (search rules, roomy_as (search rules) c.requires, going_start a.n a.offsets.now _ _ _ c.requires.offsets_long refl)

pub loop-i-preserved : goal.loop-i-preserved
loop-i-preserved c =
    let l = c.loop-i in
    let h = c.loop-i-test.true in
    (omega (arith, going_fits l.invariant.2 l.invariant.1 h), l.invariant.1, going_more l.invariant.2 l.invariant.1 _ _ _ h refl c.put_others.ensures refl)

pub returns : goal.returns
returns c = going_end c.loop-i.invariant.2 c.loop-i.invariant.1 c.loop-i-test.false
