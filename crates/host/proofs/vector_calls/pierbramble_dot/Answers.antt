-- `vector_calls::pierbramble_dot` meets its promise: the sum is that of the call, or +0.
-- Assumes nothing.
use lib.Ieee.{binary64}
use Rattle.outcomes.proofs.SumLaws.{finished_sum}
use Rattle.host.proofs.vector_calls.pierbramble_dot.Goals as goal

pub returns : goal.returns
returns c =
    let r = c.summed_of.ensures in
    finished_sum binary64 _ _ _ _ c.dot.ensures r.0 r.1 r.2
