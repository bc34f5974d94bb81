-- `operate` meets its promise: on each way the call's own checks find nothing, so that it is done.
-- Assumes nothing.
use mathlib.Core.List.{[], ◌∷◌}
use lib.ListN.{length}
use Rattle.vector_bytes.specs.Checks.{words, long_words, call_checks}
use Rattle.vector_bytes.proofs.NumberedLaws.{done_of}
use Rattle.vector_bytes.proofs.WayLaws.{vector_asked, values_asked, flags_asked, long_flags_asked}
use Rattle.vector_bytes.proofs.operate.Goals as goal

pub returns-in-SetZero : goal.returns-in-SetZero
returns-in-SetZero c =
    let a = c.args in
    rw c.in-SetZero.is
    (done_of (call_checks a.n a.dim (words 1 (length a.x.now) ∷ [])) _ _ _ _ (vector_asked _ _ _ _ _ c.requires) c.set_zero.ensures)

pub returns-in-Copy : goal.returns-in-Copy
returns-in-Copy c =
    let a = c.args in
    rw c.in-Copy.is
    (done_of (call_checks a.n a.dim (words 1 (length a.x.now) ∷ words 1 (length a.y.now) ∷ [])) _ _ _ _ (values_asked _ _ _ _ _ c.requires) c.copy.ensures)

pub returns-in-AddScaledVector : goal.returns-in-AddScaledVector
returns-in-AddScaledVector c =
    let a = c.args in
    rw c.in-AddScaledVector.is
    (done_of (call_checks a.n a.dim (words 1 (length a.x.now) ∷ words 1 (length a.y.now) ∷ [])) _ _ _ _ (values_asked _ _ _ _ _ c.requires) c.add_scaled_vector.ensures)

pub returns-in-ScaleAndAddVec : goal.returns-in-ScaleAndAddVec
returns-in-ScaleAndAddVec c =
    let a = c.args in
    rw c.in-ScaleAndAddVec.is
    (done_of (call_checks a.n a.dim (words 1 (length a.x.now) ∷ words 1 (length a.y.now) ∷ [])) _ _ _ _ (values_asked _ _ _ _ _ c.requires) c.scale_and_add_vec.ensures)

pub returns-in-SetFixed : goal.returns-in-SetFixed
returns-in-SetFixed c =
    let a = c.args in
    rw c.in-SetFixed.is
    (done_of (call_checks a.n a.dim (words 1 (length a.x.now) ∷ words 1 (length a.z.now) ∷ [])) _ _ _ _ (flags_asked _ _ _ _ _ c.requires) c.set_fixed.ensures)

pub returns-in-SetFixDofToRhsVector : goal.returns-in-SetFixDofToRhsVector
returns-in-SetFixDofToRhsVector c =
    let a = c.args in
    rw c.in-SetFixDofToRhsVector.is
    (done_of (call_checks a.n a.dim (words 1 (length a.x.now) ∷ long_words 1 (length a.z.now) ∷ [])) _ _ _ _ (long_flags_asked _ _ _ _ _ c.requires) c.set_fix_dof_to_rhs_vector.ensures)
