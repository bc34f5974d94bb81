-- `unchecked::find_places` meets its promise: the pairs of the row nodes passed are stored, and their entries are kept.
-- Assumes nothing.
use mathlib.Core.Path.{◌≡◌}
use native.Mathlib.Omega.{arith}
use lib.ListN.{length}
use borrow.Author.Rules.{rules}
use Rattle.elements.proofs.FindLaws.{all_start, all_stops, all_on, all_ends}
use Rattle.elements.proofs.unchecked.find_places.Goals as goal

pub loop-a-init : goal.loop-a-init
loop-a-init c =
    let a = c.args in
    let start = all_start a.rule a.rows.now a.cols.now a.offsets.now a.columns.now _ c.requires.1 in
    (start.0, start.1)

pub find_row-requires : goal.find_row-requires
find_row-requires c = (c.requires.0, search rules, c.loop-a.invariant.1)

pub returns-then-not-find_row : goal.returns-then-not-find_row
returns-then-not-find_row c =
    let a = c.args in
    all_stops a.rule a.rows.now a.cols.now a.offsets.now a.columns.now c.loop-a.a (search rules) _ _ _ c.find_row.ensures c.if-not-find_row.true

pub loop-a-preserved : goal.loop-a-preserved
loop-a-preserved c =
    let a = c.args in
    let on = all_on a.rule a.rows.now a.cols.now a.offsets.now a.columns.now c.loop-a.a _ _ c.loop-a.invariant.0 c.find_row.ensures c.if-not-find_row.false in
    (on.0, on.1)

pub returns : goal.returns
returns c =
    let a = c.args in
    let e : c.loop-a.a ≡ length a.rows.now = omega arith in
    all_ends a.rule a.rows.now a.cols.now a.offsets.now a.columns.now c.loop-a.a e _ c.loop-a.invariant.0 c.loop-a.invariant.1
