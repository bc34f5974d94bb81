-- `write_words` meets its promise: N is in range, so that the call's own checks decide.
-- Assumes nothing.
use lib.ListN.{length}
use Rattle.answers.specs.Limits.{outside_of}
use Rattle.patterns.specs.Checks.{too_large}
use Rattle.numbered.proofs.NumberedLaws.{once}
use Rattle.matrix_bytes.proofs.EndedLaws.{swapped}
use Rattle.fixing_bytes.proofs.write_words.Goals as goal

pub returns-in-SetZero : goal.returns-in-SetZero
returns-in-SetZero c =
    let a = c.args in
    rw c.in-SetZero.is
    (once _ _ _ _ _ (too_large (length a.offsets.now) (length a.columns.now)) (outside_of 1 3 a.dim) c.requires c.set_zero.ensures)

pub returns-in-SetFixedBc : goal.returns-in-SetFixedBc
returns-in-SetFixedBc c =
    let a = c.args in
    rw c.in-SetFixedBc.is
    (swapped _ _ _ _ _ _ _ _ (once _ _ _ _ _ (too_large (length a.offsets.now) (length a.columns.now)) (outside_of 1 3 a.dim) c.requires c.set_fixed_bc.ensures))
