-- `is_wrong` meets its promise: the matrix is wrong, or the factor, or the bytes or a length of what else is lent.
-- Assumes nothing.
use mathlib.Core.Path.{◌≡◌, sym, ◌∙◌}
use mathlib.Core.Bool.{Bool, false, not, ◌||◌}
use Prim.Native.Nat.{◌+◌, ◌-◌, ◌/◌}
use native.Mathlib.Omega.{arith}
use lib.Dec.{ltb, eqb}
use borrow.Author.Tests.{eq-eqb, ne_eqb}
use Rattle.answers.proofs.SameAnswer.{err_counts, ok_is_zero}
use Rattle.patterns.specs.Checks.{too_large}
use Rattle.patterns.proofs.SizeLaws.{rows_least, rows_most}
use Rattle.matrix.specs.Checks.{wrong_values}
use Rattle.factor_check.specs.Checks.{wrong_factor}
use Rattle.solvers.specs.Checks.{wrong_vectors}
use Rattle.numbered.proofs.NumberedLaws.{dim_of}
use Rattle.matrix_bytes.specs.Checks.{misshapen}
use Rattle.matrix_bytes.proofs.CheckLaws.{range_of}
use Rattle.factor_bytes.specs.Checks.{misshapen_factor}
use Rattle.solver_bytes.specs.Checks.{broken_vectors}
use Rattle.preconditioned_bytes.proofs.CheckLaws.{either_wrong, both_right, matrix_wrong, factor_wrong}
use Rattle.preconditioned_bytes.proofs.is_wrong.Goals as goal

pub returns-then-is_err : goal.returns-then-is_err
returns-then-is_err c =
    -- what the parts of the condition are
    let ofMatrix : Bool = let a = c.args in misshapen a.dim a.starts a.entries a.a_values a.a_diagonal in
    let ofValues : Bool = let a = c.args in wrong_values a.dim (a.starts / 4 - 1) (a.entries / 4) (a.a_values / 8) (a.a_diagonal / 8) in
    let ofFactor : Bool = let a = c.args in misshapen_factor a.dim a.offsets a.columns a.splits a.diagonal a.values || broken_vectors a.r a.x a.pr a.p a.history in
    let ofBlocks : Bool = let a = c.args in wrong_factor a.dim (a.offsets / 4 - 1) (a.columns / 4) (a.splits / 4) (a.diagonal / 8) (a.values / 8) in
    let ofRows : Bool = let a = c.args in not (eqb (a.offsets / 4 - 1) (a.starts / 4 - 1)) in
    let ofVectors : Bool = let a = c.args in
    wrong_vectors (a.starts / 4 - 1) a.dim (a.r / 8) (a.x / 8) (a.pr / 8) (a.p / 8) || ltb (a.history / 8) (a.limit + 2) in
    let a = c.args in
    matrix_wrong ofMatrix ofValues ofFactor (ofRows || (ofBlocks || ofVectors))
    (either_wrong (too_large (a.starts / 4) (a.entries / 4)) ofMatrix ofValues c.requires.0 (λ z. err_counts _ (sym c.is_err.ensures.value ∙ c.if-is_err.true) (c.check_matrix_bytes.ensures ∙ z)))

pub returns-then-is_err-2 : goal.returns-then-is_err-2
returns-then-is_err-2 c =
    -- what the parts of the condition are
    let ofMatrix : Bool = let a = c.args in misshapen a.dim a.starts a.entries a.a_values a.a_diagonal in
    let ofValues : Bool = let a = c.args in wrong_values a.dim (a.starts / 4 - 1) (a.entries / 4) (a.a_values / 8) (a.a_diagonal / 8) in
    let ofFactor : Bool = let a = c.args in misshapen_factor a.dim a.offsets a.columns a.splits a.diagonal a.values || broken_vectors a.r a.x a.pr a.p a.history in
    let ofBlocks : Bool = let a = c.args in wrong_factor a.dim (a.offsets / 4 - 1) (a.columns / 4) (a.splits / 4) (a.diagonal / 8) (a.values / 8) in
    let ofRows : Bool = let a = c.args in not (eqb (a.offsets / 4 - 1) (a.starts / 4 - 1)) in
    let ofVectors : Bool = let a = c.args in
    wrong_vectors (a.starts / 4 - 1) a.dim (a.r / 8) (a.x / 8) (a.pr / 8) (a.p / 8) || ltb (a.history / 8) (a.limit + 2) in
    -- past the first test the matrix is right
    let right : (ofMatrix ≡ false) × (ofValues ≡ false) = let a = c.args in
    both_right (too_large (a.starts / 4) (a.entries / 4)) ofMatrix ofValues (sym c.check_matrix_bytes.ensures ∙ ok_is_zero _ (sym c.is_err.ensures.value ∙ c.if-is_err.false)) in
    let a = c.args in
    let first = rw c.are_broken_vectors-torn.ensures at c.check_factor_bytes.ensures in
    rw (right.0, right.1)
    (factor_wrong ofFactor ofBlocks ofRows ofVectors
    (either_wrong (too_large (a.offsets / 4) (a.columns / 4)) ofFactor ofBlocks c.requires.1 (λ z. err_counts _ (sym c.is_err-2.ensures.value ∙ c.if-is_err-2.true) (first ∙ z))))

pub overflow_sub-rows : goal.overflow_sub-rows
overflow_sub-rows c = omega (arith, rows_least (c.args.starts / 4) (c.args.entries / 4) c.requires.0)

pub overflow_sub-offsets : goal.overflow_sub-offsets
overflow_sub-offsets c = omega (arith, rows_least (c.args.offsets / 4) (c.args.columns / 4) c.requires.1)

pub returns-then-offsets-rows : goal.returns-then-offsets-rows
returns-then-offsets-rows c =
    -- what the parts of the condition are
    let ofMatrix : Bool = let a = c.args in misshapen a.dim a.starts a.entries a.a_values a.a_diagonal in
    let ofValues : Bool = let a = c.args in wrong_values a.dim (a.starts / 4 - 1) (a.entries / 4) (a.a_values / 8) (a.a_diagonal / 8) in
    let ofFactor : Bool = let a = c.args in misshapen_factor a.dim a.offsets a.columns a.splits a.diagonal a.values || broken_vectors a.r a.x a.pr a.p a.history in
    let ofBlocks : Bool = let a = c.args in wrong_factor a.dim (a.offsets / 4 - 1) (a.columns / 4) (a.splits / 4) (a.diagonal / 8) (a.values / 8) in
    -- past the first test the matrix is right
    let right : (ofMatrix ≡ false) × (ofValues ≡ false) = let a = c.args in
    both_right (too_large (a.starts / 4) (a.entries / 4)) ofMatrix ofValues (sym c.check_matrix_bytes.ensures ∙ ok_is_zero _ (sym c.is_err.ensures.value ∙ c.if-is_err.false)) in
    -- past the second test the factor and the bytes of the vectors are right
    let factor_right : (ofFactor ≡ false) × (ofBlocks ≡ false) = let a = c.args in
    let first = rw c.are_broken_vectors-torn.ensures at c.check_factor_bytes.ensures in
    both_right (too_large (a.offsets / 4) (a.columns / 4)) ofFactor ofBlocks (sym first ∙ ok_is_zero _ (sym c.is_err-2.ensures.value ∙ c.if-is_err-2.false)) in
    rw (right.0, right.1, factor_right.0, factor_right.1, ne_eqb _ _ c.if-offsets-rows.true)

pub are_wrong_vectors-requires : goal.are_wrong_vectors-requires
are_wrong_vectors-requires c =
    -- what the parts of the condition are
    let ofMatrix : Bool = let a = c.args in misshapen a.dim a.starts a.entries a.a_values a.a_diagonal in
    let ofValues : Bool = let a = c.args in wrong_values a.dim (a.starts / 4 - 1) (a.entries / 4) (a.a_values / 8) (a.a_diagonal / 8) in
    -- past the first test the matrix is right
    let right : (ofMatrix ≡ false) × (ofValues ≡ false) = let a = c.args in
    both_right (too_large (a.starts / 4) (a.entries / 4)) ofMatrix ofValues (sym c.check_matrix_bytes.ensures ∙ ok_is_zero _ (sym c.is_err.ensures.value ∙ c.if-is_err.false)) in
    let a = c.args in
    (dim_of a.dim (range_of a.dim a.starts a.entries a.a_values a.a_diagonal right.0), rows_most (a.starts / 4) (a.entries / 4) c.requires.0)

pub returns-then-are_wrong_vectors : goal.returns-then-are_wrong_vectors
returns-then-are_wrong_vectors c =
    -- what the parts of the condition are
    let ofMatrix : Bool = let a = c.args in misshapen a.dim a.starts a.entries a.a_values a.a_diagonal in
    let ofValues : Bool = let a = c.args in wrong_values a.dim (a.starts / 4 - 1) (a.entries / 4) (a.a_values / 8) (a.a_diagonal / 8) in
    let ofFactor : Bool = let a = c.args in misshapen_factor a.dim a.offsets a.columns a.splits a.diagonal a.values || broken_vectors a.r a.x a.pr a.p a.history in
    let ofBlocks : Bool = let a = c.args in wrong_factor a.dim (a.offsets / 4 - 1) (a.columns / 4) (a.splits / 4) (a.diagonal / 8) (a.values / 8) in
    -- past the first test the matrix is right
    let right : (ofMatrix ≡ false) × (ofValues ≡ false) = let a = c.args in
    both_right (too_large (a.starts / 4) (a.entries / 4)) ofMatrix ofValues (sym c.check_matrix_bytes.ensures ∙ ok_is_zero _ (sym c.is_err.ensures.value ∙ c.if-is_err.false)) in
    -- past the second test the factor and the bytes of the vectors are right
    let factor_right : (ofFactor ≡ false) × (ofBlocks ≡ false) = let a = c.args in
    let first = rw c.are_broken_vectors-torn.ensures at c.check_factor_bytes.ensures in
    both_right (too_large (a.offsets / 4) (a.columns / 4)) ofFactor ofBlocks (sym first ∙ ok_is_zero _ (sym c.is_err-2.ensures.value ∙ c.if-is_err-2.false)) in
    rw (right.0, right.1, factor_right.0, factor_right.1, eq-eqb _ _ c.if-offsets-rows.false, sym c.are_wrong_vectors.ensures ∙ c.if-are_wrong_vectors.true)

pub returns : goal.returns
returns c =
    -- what the parts of the condition are
    let ofMatrix : Bool = let a = c.args in misshapen a.dim a.starts a.entries a.a_values a.a_diagonal in
    let ofValues : Bool = let a = c.args in wrong_values a.dim (a.starts / 4 - 1) (a.entries / 4) (a.a_values / 8) (a.a_diagonal / 8) in
    let ofFactor : Bool = let a = c.args in misshapen_factor a.dim a.offsets a.columns a.splits a.diagonal a.values || broken_vectors a.r a.x a.pr a.p a.history in
    let ofBlocks : Bool = let a = c.args in wrong_factor a.dim (a.offsets / 4 - 1) (a.columns / 4) (a.splits / 4) (a.diagonal / 8) (a.values / 8) in
    -- past the first test the matrix is right
    let right : (ofMatrix ≡ false) × (ofValues ≡ false) = let a = c.args in
    both_right (too_large (a.starts / 4) (a.entries / 4)) ofMatrix ofValues (sym c.check_matrix_bytes.ensures ∙ ok_is_zero _ (sym c.is_err.ensures.value ∙ c.if-is_err.false)) in
    -- past the second test the factor and the bytes of the vectors are right
    let factor_right : (ofFactor ≡ false) × (ofBlocks ≡ false) = let a = c.args in
    let first = rw c.are_broken_vectors-torn.ensures at c.check_factor_bytes.ensures in
    both_right (too_large (a.offsets / 4) (a.columns / 4)) ofFactor ofBlocks (sym first ∙ ok_is_zero _ (sym c.is_err-2.ensures.value ∙ c.if-is_err-2.false)) in
    rw (right.0, right.1, factor_right.0, factor_right.1, eq-eqb _ _ c.if-offsets-rows.false, sym c.are_wrong_vectors.ensures ∙ c.if-are_wrong_vectors.false)
