-- `pierbramble_check_vector` meets its promise: its checks have the numbers 1 and 2, and those carry no row.
-- Assumes nothing.
use Rattle.outcomes.proofs.OutcomeLaws.{checked}
use Rattle.host.proofs.pierbramble_check_vector.Goals as goal

pub returns : goal.returns
returns c =
    let a = c.args in
    checked a.n a.dim a.length c.check_vector.result _ c.check_vector.ensures c.outcome_of.ensures.0 c.outcome_of.ensures.1
