-- `unchecked::goes_to_diagonal` meets its promise: each rule makes its own comparison.
-- Assumes nothing.
use Rattle.elements.specs.Pairs.{to_diagonal}
use Rattle.elements.proofs.unchecked.goes_to_diagonal.Goals as goal

pub returns-in-Place : goal.returns-in-Place
unfolding to_diagonal
returns-in-Place c = rw c.in-Place.is

pub returns-in-Number : goal.returns-in-Number
unfolding to_diagonal
returns-in-Number c = rw c.in-Number.is

pub returns-in-Never : goal.returns-in-Never
unfolding to_diagonal
returns-in-Never c = rw c.in-Never.is
