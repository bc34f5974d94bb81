-- `unchecked::do_eight_climb` meets its promise: its eight columns are there.
-- Assumes nothing.
use Rattle.patterns.specs.Steps.{eight_climb_at}
use borrow.Author.Rules.{rules}
use Rattle.patterns.proofs.unchecked.do_eight_climb.Goals as goal

pub returns : goal.returns
unfolding eight_climb_at
returns c = search rules
