-- `unchecked::count_marks` meets its promise: after each turn the marks below j are counted.
-- Assumes nothing.
use Rattle.fill.proofs.ScanLaws.{count_to_lem}
use borrow.Author.Rules.{rules}
use Rattle.fill_rows.proofs.unchecked.count_marks.Goals as goal

pub returns : goal.returns
returns c = count_to_lem c.args.row.now c.args.low c.loop-j.j c.args.to c.loop-j.found c.requires.1 (search rules) (search rules) (search rules) c.loop-j.invariant.2
