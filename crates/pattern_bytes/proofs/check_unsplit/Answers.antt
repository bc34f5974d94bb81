-- `check_unsplit` meets its promise: refused by the bytes, or answered as the words are.
-- Assumes nothing.
use Rattle.std.specs.Prelude.{Ok}
use Rattle.std.proofs.Common.{rules}
use Rattle.answers.proofs.SameAnswer.{passed_up}
use mathlib.Core.Path.{refl}
use mathlib.Core.List.{[]}
use native.Mathlib.Omega.{arith}
use lib.ListN.{length}
use Rattle.wire.specs.Words.{indexes_in}
use Rattle.pattern_bytes.specs.Checks.{broken_pattern, checks_of}
use Rattle.pattern_bytes.proofs.PassLaws.{stopped, passed, handed_on, well_formed, pattern_whole, no_words}
use Rattle.pattern_bytes.proofs.check_unsplit.Goals as goal

pub returns-in_err-check_bytes : goal.returns-in_err-check_bytes
returns-in_err-check_bytes c =
    let on = passed_up {answer = c.from_residual.result} (search rules) c.in_err-check_bytes.ensures in
    let a = c.args in
    let offsets = length a.offsets.now in
    let columns = length a.columns.now in
    stopped offsets columns (broken_pattern offsets columns) _
    (rw c.is_broken_pattern-misshapen.ensures at on.number)
    (checks_of a.kind (indexes_in a.offsets.now) (indexes_in a.columns.now) []) on.counts

pub check_kind-requires : goal.check_kind-requires
check_kind-requires c =
    let a = c.args in
    let offsets = length a.offsets.now in
    let columns = length a.columns.now in
    let broken = broken_pattern offsets columns in
    let none = passed offsets columns broken (Ok tt)
    (rw c.is_broken_pattern-misshapen.ensures at c.in_ok-check_bytes.ensures) refl in
    let both = pattern_whole offsets columns broken none (well_formed offsets columns broken none) in
    (both.0, both.1, record { whole = refl; few = omega arith })

pub returns : goal.returns
returns c =
    let a = c.args in
    let offsets = length a.offsets.now in
    let columns = length a.columns.now in
    let broken = broken_pattern offsets columns in
    let none = passed offsets columns broken (Ok tt)
    (rw c.is_broken_pattern-misshapen.ensures at c.in_ok-check_bytes.ensures) refl in
    handed_on offsets columns broken (checks_of a.kind (indexes_in a.offsets.now) (indexes_in a.columns.now) []) c.check_kind.result none
    (rw no_words at c.check_kind.ensures)
