-- `check_assembly` meets its promise: the bytes decide first, then the words.
-- Assumes nothing.
use Rattle.std.specs.Prelude.{Ok}
use Rattle.std.proofs.Common.{rules}
use Rattle.answers.proofs.SameAnswer.{passed_up}
use mathlib.Core.Path.{refl}
use mathlib.Core.Bool.{◌||◌}
use Prim.Native.Nat.{◌/◌}
use Rattle.answers.specs.Limits.{outside_of}
use Rattle.elements.specs.Checks.{element_lengths}
use Rattle.element_bytes.specs.Checks.{broken_assembly}
use Rattle.pattern_bytes.proofs.PassLaws.{stopped, passed, handed_on}
use Rattle.entry_bytes.proofs.SizeLaws.{dim_passed}
use Rattle.element_bytes.proofs.check_assembly.Goals as goal

pub returns-in_err-check_bytes : goal.returns-in_err-check_bytes
returns-in_err-check_bytes c =
    let on = passed_up {answer = c.from_residual.result} (search rules) c.in_err-check_bytes.ensures in
    let a = c.args in
    let broken = broken_assembly a.rows a.cols a.element a.offsets a.columns a.diagonal a.values in
    let later = element_lengths a.dim (a.rows / 4) (a.cols / 4) (a.element / 8) (a.offsets / 4) (a.columns / 4) (a.diagonal / 8) (a.values / 8) in
    stopped a.offsets a.columns (outside_of 1 3 a.dim || broken) _ (rw c.is_misshapen_assembly-misshapen.ensures at on.number) later on.counts

pub check_element_lengths-requires : goal.check_element_lengths-requires
check_element_lengths-requires c =
    let a = c.args in
    let broken = broken_assembly a.rows a.cols a.element a.offsets a.columns a.diagonal a.values in
    dim_passed a.offsets a.columns a.dim broken (Ok tt) (rw c.is_misshapen_assembly-misshapen.ensures at c.in_ok-check_bytes.ensures) refl

pub returns : goal.returns
returns c =
    let a = c.args in
    let broken = broken_assembly a.rows a.cols a.element a.offsets a.columns a.diagonal a.values in
    let later = element_lengths a.dim (a.rows / 4) (a.cols / 4) (a.element / 8) (a.offsets / 4) (a.columns / 4) (a.diagonal / 8) (a.values / 8) in
    handed_on a.offsets a.columns (outside_of 1 3 a.dim || broken) later c.check_element_lengths.result
    (passed a.offsets a.columns (outside_of 1 3 a.dim || broken) (Ok tt) (rw c.is_misshapen_assembly-misshapen.ensures at c.in_ok-check_bytes.ensures) refl)
    c.check_element_lengths.ensures
