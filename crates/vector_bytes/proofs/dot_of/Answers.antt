-- `dot_of` meets its promise: whichever room is taken, the words of the call fit.
-- Assumes nothing.
use mathlib.Core.List.{[], ◌∷◌}
use lib.ListN.{length}
use Rattle.vector_bytes.specs.Checks.{words}
use Rattle.vector_bytes.proofs.CheckLaws.{known, few_rows, small_dim}
use Rattle.vector_bytes.proofs.dot_of.Goals as goal

pub count_of-count-requires : goal.count_of-count-requires
count_of-count-requires c =
    let a = c.args in
    let all = known a.n a.dim (words 8 (length a.a.now) ∷ words 8 (length a.b.now) ∷ []) c.requires in
    (small_dim a.dim all.1, few_rows a.n all.0)
