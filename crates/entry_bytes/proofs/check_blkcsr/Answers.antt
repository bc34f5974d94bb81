-- `check_blkcsr` meets its promise: the bytes decide first, then the words.
-- Assumes nothing.
use Rattle.std.specs.Prelude.{Ok}
use Rattle.std.proofs.Common.{rules}
use Rattle.answers.proofs.SameAnswer.{passed_up}
use mathlib.Core.Path.{refl}
use mathlib.Core.Bool.{◌||◌}
use Prim.Native.Nat.{◌/◌}
use Rattle.answers.specs.Limits.{outside_of}
use Rattle.elements.specs.Checks.{entry_lengths}
use Rattle.entry_bytes.specs.Checks.{broken_entries}
use Rattle.pattern_bytes.proofs.PassLaws.{stopped, passed, handed_on}
use Rattle.entry_bytes.proofs.SizeLaws.{dim_passed}
use Rattle.entry_bytes.proofs.check_blkcsr.Goals as goal

pub returns-in_err-check_bytes : goal.returns-in_err-check_bytes
returns-in_err-check_bytes c =
    let on = passed_up {answer = c.from_residual.result} (search rules) c.in_err-check_bytes.ensures in
    let a = c.args in
    let broken = broken_entries a.rows a.cols a.element a.offsets a.columns a.values in
    let later = entry_lengths a.dim (a.rows / 4) (a.cols / 4) (a.element / 8) (a.offsets / 4) (a.columns / 4) (a.values / 8) in
    stopped a.offsets a.columns (outside_of 1 3 a.dim || broken) _ (rw c.is_misshapen_entries-misshapen.ensures at on.number) later on.counts

pub check_entry_lengths-requires : goal.check_entry_lengths-requires
check_entry_lengths-requires c =
    let a = c.args in
    let broken = broken_entries a.rows a.cols a.element a.offsets a.columns a.values in
    dim_passed a.offsets a.columns a.dim broken (Ok tt) (rw c.is_misshapen_entries-misshapen.ensures at c.in_ok-check_bytes.ensures) refl

pub returns : goal.returns
returns c =
    let a = c.args in
    let broken = broken_entries a.rows a.cols a.element a.offsets a.columns a.values in
    let later = entry_lengths a.dim (a.rows / 4) (a.cols / 4) (a.element / 8) (a.offsets / 4) (a.columns / 4) (a.values / 8) in
    handed_on a.offsets a.columns (outside_of 1 3 a.dim || broken) later c.check_entry_lengths.result
    (passed a.offsets a.columns (outside_of 1 3 a.dim || broken) (Ok tt) (rw c.is_misshapen_entries-misshapen.ensures at c.in_ok-check_bytes.ensures) refl)
    c.check_entry_lengths.ensures
