-- `unchecked::find_row` meets its promise: the pairs passed are stored, and their entries are kept.
-- Assumes nothing.
use mathlib.Core.Path.{◌≡◌}
use native.Mathlib.Omega.{arith}
use lib.ListN.{length}
use borrow.Author.Rules.{rules}
use Rattle.elements.proofs.FindLaws.{row_start, row_stops, row_on, row_ends}
use Rattle.elements.proofs.unchecked.find_row.Goals as goal

pub loop-b-init : goal.loop-b-init
loop-b-init c = let start = row_start c.args.rule c.args.a c.requires.2 in (start.0, start.1)

pub find_pair-requires : goal.find_pair-requires
find_pair-requires c = (c.requires.0, c.requires.1, search rules, c.loop-b.invariant.1)

pub returns-then-not-find_pair : goal.returns-then-not-find_pair
returns-then-not-find_pair c =
    let a = c.args in
    row_stops a.rule a.rows.now a.cols.now a.offsets.now a.columns.now a.a c.loop-b.b (search rules) _ _ _ c.find_pair.ensures c.if-not-find_pair.true

pub loop-b-preserved : goal.loop-b-preserved
loop-b-preserved c =
    let a = c.args in
    let on = row_on a.rule a.rows.now a.cols.now a.offsets.now a.columns.now a.a c.loop-b.b _ _ c.loop-b.invariant.0 c.find_pair.ensures c.if-not-find_pair.false in
    (on.0, on.1)

pub returns : goal.returns
returns c =
    let e : c.loop-b.b ≡ length c.args.cols.now = omega arith in
    row_ends c.args.rule c.requires.0 c.args.a c.loop-b.b e _ c.loop-b.invariant.0 c.loop-b.invariant.1
