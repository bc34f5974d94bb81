-- `work` meets its promise: whichever room is taken, the words of the call fit.
-- Assumes nothing.
use lib.ListN.{length}
use lib.Ieee.{binary64}
use Rattle.vector_bytes.specs.Operations.{second_of, lent_of}
use Rattle.vector_bytes.proofs.CheckLaws.{known, few_rows, small_dim}
use Rattle.vector_bytes.proofs.work.Goals as goal

pub count_of-count-requires : goal.count_of-count-requires
count_of-count-requires c =
    let a = c.args in
    let all = known a.n a.dim (lent_of binary64 (second_of a.op) (length a.out.now) (length a.b.now)) c.requires in
    (small_dim a.dim all.1, few_rows a.n all.0)
