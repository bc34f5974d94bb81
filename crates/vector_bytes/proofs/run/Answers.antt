-- `run` meets its promise: refused with every byte as it was, or worked.
-- Assumes nothing.
use Rattle.std.proofs.Common.{rules}
use Rattle.answers.proofs.SameAnswer.{passed_up}
use mathlib.Core.Path.{◌≡◌, refl, sym, ◌∙◌}
use mathlib.Core.Bool.{true}
use lib.ListN.{length}
use lib.Ieee.{binary64}
use Rattle.answers.specs.Checks.{none_holds}
use Rattle.answers.proofs.EndLaws.{none_of_zero, refused}
use Rattle.vector_bytes.specs.Checks.{call_checks}
use Rattle.vector_bytes.specs.Operations.{second_of, lent_of}
use Rattle.vector_bytes.proofs.NumberedLaws.{worked}
use Rattle.vector_bytes.proofs.run.Goals as goal

pub returns-in_err-check : goal.returns-in_err-check
returns-in_err-check c =
    let on = passed_up {answer = c.from_residual.result} (search rules) c.in_err-check.ensures in
    refused _ _ (rw c.second_of.ensures at on.number) _ _ on.counts

pub work-requires : goal.work-requires
work-requires c =
    -- past the test no check holds
    let passed : (let a = c.args in
    none_holds (call_checks a.n a.dim (lent_of binary64 (second_of a.op) (length a.p.now) (length a.b.now))) ≡ true) = let a = c.args in
    let zero_is = sym (rw c.second_of.ensures at c.in_ok-check.ensures) in
    none_of_zero (call_checks a.n a.dim (lent_of binary64 (second_of a.op) (length a.p.now) (length a.b.now))) refl zero_is in
    passed

pub returns : goal.returns
returns c =
    -- past the test no check holds
    let passed : (let a = c.args in
    none_holds (call_checks a.n a.dim (lent_of binary64 (second_of a.op) (length a.p.now) (length a.b.now))) ≡ true) = let a = c.args in
    let zero_is = sym (rw c.second_of.ensures at c.in_ok-check.ensures) in
    none_of_zero (call_checks a.n a.dim (lent_of binary64 (second_of a.op) (length a.p.now) (length a.b.now))) refl zero_is in
    worked _ _ _ _ _ passed c.work.ensures.0 c.work.ensures.1
