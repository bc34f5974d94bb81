-- `is_wrong` meets its promise: the matrix is wrong, or the bytes or a length of what else is lent.
-- Assumes nothing.
use mathlib.Core.Path.{◌≡◌, sym, ◌∙◌}
use mathlib.Core.Bool.{Bool, false}
use Prim.Native.Nat.{◌-◌, ◌/◌}
use native.Mathlib.Omega.{arith}
use lib.Dec.{ltb}
use Rattle.answers.proofs.SameAnswer.{err_counts, ok_is_zero}
use Rattle.patterns.specs.Checks.{too_large}
use Rattle.patterns.proofs.SizeLaws.{rows_least, rows_most}
use Rattle.matrix.specs.Checks.{wrong_values}
use Rattle.solvers.specs.Checks.{wrong_vectors}
use Rattle.numbered.proofs.NumberedLaws.{dim_of}
use Rattle.matrix_bytes.specs.Checks.{misshapen}
use Rattle.matrix_bytes.proofs.CheckLaws.{range_of}
use Rattle.solver_bytes.specs.Checks.{broken_vectors}
use Rattle.gradient_bytes.proofs.CheckLaws.{matrix_wrong, matrix_right}
use Rattle.gradient_bytes.proofs.is_wrong.Goals as goal

pub returns-then-is_err : goal.returns-then-is_err
returns-then-is_err c =
    -- the parts of the condition
    let ofMatrix : Bool = let a = c.args in misshapen a.dim a.offsets a.columns a.values a.diagonal in
    let ofValues : Bool = let a = c.args in wrong_values a.dim (a.offsets / 4 - 1) (a.columns / 4) (a.values / 8) (a.diagonal / 8) in
    let a = c.args in
    matrix_wrong (too_large (a.offsets / 4) (a.columns / 4)) ofMatrix ofValues (broken_vectors a.r a.u a.ap a.p a.history)
    (wrong_vectors (a.offsets / 4 - 1) a.dim (a.r / 8) (a.u / 8) (a.ap / 8) (a.p / 8)) (ltb (a.history / 8) a.limit) c.requires (λ z. err_counts _ (sym c.is_err.ensures.value ∙ c.if-is_err.true) (c.check_matrix_bytes.ensures ∙ z))

pub returns-then-are_broken_vectors : goal.returns-then-are_broken_vectors
returns-then-are_broken_vectors c =
    -- the parts of the condition
    let ofMatrix : Bool = let a = c.args in misshapen a.dim a.offsets a.columns a.values a.diagonal in
    let ofValues : Bool = let a = c.args in wrong_values a.dim (a.offsets / 4 - 1) (a.columns / 4) (a.values / 8) (a.diagonal / 8) in
    -- past the first test the matrix is right
    let right : (ofMatrix ≡ false) × (ofValues ≡ false) = let a = c.args in
    matrix_right (too_large (a.offsets / 4) (a.columns / 4)) ofMatrix ofValues (sym c.check_matrix_bytes.ensures ∙ ok_is_zero _ (sym c.is_err.ensures.value ∙ c.if-is_err.false)) in
    rw (right.0, sym c.are_broken_vectors.ensures ∙ c.if-are_broken_vectors.true)

pub overflow_sub-rows : goal.overflow_sub-rows
overflow_sub-rows c = omega (arith, rows_least (c.args.offsets / 4) (c.args.columns / 4) c.requires)

pub are_wrong_vectors-requires : goal.are_wrong_vectors-requires
are_wrong_vectors-requires c =
    -- the parts of the condition
    let ofMatrix : Bool = let a = c.args in misshapen a.dim a.offsets a.columns a.values a.diagonal in
    let ofValues : Bool = let a = c.args in wrong_values a.dim (a.offsets / 4 - 1) (a.columns / 4) (a.values / 8) (a.diagonal / 8) in
    -- past the first test the matrix is right
    let right : (ofMatrix ≡ false) × (ofValues ≡ false) = let a = c.args in
    matrix_right (too_large (a.offsets / 4) (a.columns / 4)) ofMatrix ofValues (sym c.check_matrix_bytes.ensures ∙ ok_is_zero _ (sym c.is_err.ensures.value ∙ c.if-is_err.false)) in
    let a = c.args in
    (dim_of a.dim (range_of a.dim a.offsets a.columns a.values a.diagonal right.0), rows_most (a.offsets / 4) (a.columns / 4) c.requires)

pub returns-then-are_wrong_vectors : goal.returns-then-are_wrong_vectors
returns-then-are_wrong_vectors c =
    -- the parts of the condition
    let ofMatrix : Bool = let a = c.args in misshapen a.dim a.offsets a.columns a.values a.diagonal in
    let ofValues : Bool = let a = c.args in wrong_values a.dim (a.offsets / 4 - 1) (a.columns / 4) (a.values / 8) (a.diagonal / 8) in
    -- past the first test the matrix is right
    let right : (ofMatrix ≡ false) × (ofValues ≡ false) = let a = c.args in
    matrix_right (too_large (a.offsets / 4) (a.columns / 4)) ofMatrix ofValues (sym c.check_matrix_bytes.ensures ∙ ok_is_zero _ (sym c.is_err.ensures.value ∙ c.if-is_err.false)) in
    rw (right.0, right.1, sym c.are_broken_vectors.ensures ∙ c.if-are_broken_vectors.false, sym c.are_wrong_vectors.ensures ∙ c.if-are_wrong_vectors.true)

pub returns : goal.returns
returns c =
    -- the parts of the condition
    let ofMatrix : Bool = let a = c.args in misshapen a.dim a.offsets a.columns a.values a.diagonal in
    let ofValues : Bool = let a = c.args in wrong_values a.dim (a.offsets / 4 - 1) (a.columns / 4) (a.values / 8) (a.diagonal / 8) in
    -- past the first test the matrix is right
    let right : (ofMatrix ≡ false) × (ofValues ≡ false) = let a = c.args in
    matrix_right (too_large (a.offsets / 4) (a.columns / 4)) ofMatrix ofValues (sym c.check_matrix_bytes.ensures ∙ ok_is_zero _ (sym c.is_err.ensures.value ∙ c.if-is_err.false)) in
    rw (right.0, right.1, sym c.are_broken_vectors.ensures ∙ c.if-are_broken_vectors.false, sym c.are_wrong_vectors.ensures ∙ c.if-are_wrong_vectors.false)
