-- `check_factor` meets its promise: refused by the bytes, or answered as the words are.
-- Assumes nothing.
use Rattle.std.specs.Prelude.{Ok}
use Rattle.std.proofs.Common.{rules}
use Rattle.answers.proofs.SameAnswer.{passed_up}
use mathlib.Core.Path.{refl}
use lib.ListN.{length}
use Rattle.patterns.specs.Checks.{factor_checks}
use Rattle.wire.specs.Words.{indexes_in}
use Rattle.pattern_bytes.specs.Checks.{broken_factor}
use Rattle.pattern_bytes.proofs.PassLaws.{stopped, passed, handed_on, factor_whole}
use Rattle.pattern_bytes.proofs.check_factor.Goals as goal

pub returns-in_err-check_bytes : goal.returns-in_err-check_bytes
returns-in_err-check_bytes c =
    let on = passed_up {answer = c.from_residual.result} (search rules) c.in_err-check_bytes.ensures in
    let a = c.args in
    let offsets = length a.offsets.now in
    let columns = length a.columns.now in
    stopped offsets columns (broken_factor offsets columns (length a.splits.now)) _
    (rw c.is_broken_factor-misshapen.ensures at on.number)
    (factor_checks (indexes_in a.offsets.now) (indexes_in a.columns.now) (indexes_in a.splits.now)) on.counts

pub check_kind-requires : goal.check_kind-requires
check_kind-requires c =
    let a = c.args in
    let offsets = length a.offsets.now in
    let columns = length a.columns.now in
    let splits = length a.splits.now in
    factor_whole offsets columns splits
    (passed offsets columns (broken_factor offsets columns splits) (Ok tt)
    (rw c.is_broken_factor-misshapen.ensures at c.in_ok-check_bytes.ensures) refl)

pub returns : goal.returns
returns c =
    let a = c.args in
    let offsets = length a.offsets.now in
    let columns = length a.columns.now in
    let broken = broken_factor offsets columns (length a.splits.now) in
    handed_on offsets columns broken (factor_checks (indexes_in a.offsets.now) (indexes_in a.columns.now) (indexes_in a.splits.now)) c.check_kind.result
    (passed offsets columns broken (Ok tt)
    (rw c.is_broken_factor-misshapen.ensures at c.in_ok-check_bytes.ensures) refl)
    c.check_kind.ensures
