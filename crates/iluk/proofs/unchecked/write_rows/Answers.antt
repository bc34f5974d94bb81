-- `unchecked::write_rows` meets its promise: before row i the rows below it are written.
-- Assumes nothing.
use mathlib.Core.Path.{refl, sym, ◌∙◌}
use native.Mathlib.Omega.{arith}
use Prim.Native.Nat.{◌≤◌}
use Rattle.fill.proofs.GoingLaws.{going_start, going_full, going_fits, going_more, going_end, going_ready, going_long, worked_as}
use borrow.Author.Rules.{rules}
use Rattle.iluk.proofs.unchecked.write_rows.Goals as goal

pub loop-i-init : goal.loop-i-init
loop-i-init c = let p = c.requires in
    (search rules, going_start _ _ _ c.args.offsets.now _ _ _ _ _ (omega (arith, p.rows, p.shaped.offsets_long)) (omega (arith, p.rows, p.shaped.splits_long)) p.shaped.levels_long refl p.clear)

pub row_levels-span-requires : goal.row_levels-span-requires
row_levels-span-requires c =
    let few_rows : c.args.n ≤ 65536 = omega (arith, c.requires.rows, c.requires.shaped.few) in
    going_ready _ _ _ _ c.loop-i.invariant.1 c.loop-i-test.true few_rows (c.requires.shaped.rows ∙ c.requires.rows) c.requires.shaped.valid

pub returns-then-columns-at : goal.returns-then-columns-at
returns-then-columns-at c = let G = c.loop-i.invariant.1 in
    going_full _ _ _ G _ _ _ (worked_as (sym (going_long G)) c.row_levels-span.ensures) c.loop-i-test.true _ _ _ _ _ _ c.count_marks-all.ensures c.if-columns-at.true

pub put_row-requires : goal.put_row-requires
put_row-requires c =
    let few_rows : c.args.n ≤ 65536 = omega (arith, c.requires.rows, c.requires.shaped.few) in
    let G = c.loop-i.invariant.1 in
    going_fits _ _ _ G _ _ _ (worked_as (sym (going_long G)) c.row_levels-span.ensures) c.loop-i-test.true _ c.count_marks-all.ensures c.if-columns-at.false few_rows c.requires.shaped.room

pub loop-i-preserved : goal.loop-i-preserved
loop-i-preserved c = let l = c.loop-i in
    let G = l.invariant.1 in
    let p = c.put_row.ensures in (
      omega (arith, c.if-columns-at.false, l.auto.columns, c.requires.shaped.room),
      going_more _ _ _ G _ _ _ (worked_as (sym (going_long G)) c.row_levels-span.ensures) c.loop-i-test.true _ _ _ _ _ _ c.count_marks-all.ensures c.if-columns-at.false p.columns_after p.levels_after p.splits_after p.offsets_after p.row_after,
    )

pub returns : goal.returns
returns c = going_end _ _ _ c.loop-i.invariant.1 c.loop-i-test.false
