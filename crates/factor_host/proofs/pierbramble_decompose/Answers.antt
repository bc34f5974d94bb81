-- `pierbramble_decompose` meets its promise: the end of the call, with the row that 9 carries.
-- Assumes nothing.
use Rattle.factor_host.proofs.pierbramble_decompose.Goals as goal

pub returns : goal.returns
returns c = rw (c.outcome_of.ensures.0, c.outcome_of.ensures.1) c.decompose.ensures
