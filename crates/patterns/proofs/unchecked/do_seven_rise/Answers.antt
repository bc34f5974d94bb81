-- `unchecked::do_seven_rise` meets its promise: its eight columns are there.
-- Assumes nothing.
use Rattle.patterns.specs.Steps.{seven_rise}
use borrow.Author.Rules.{rules}
use Rattle.patterns.proofs.unchecked.do_seven_rise.Goals as goal

pub returns : goal.returns
unfolding seven_rise
returns c = search rules
