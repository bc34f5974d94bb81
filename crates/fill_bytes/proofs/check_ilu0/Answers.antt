-- `check_ilu0` meets its promise: refused by the bytes, or by what their lengths are as words.
-- Assumes nothing.
use Rattle.std.specs.Prelude.{Ok}
use Rattle.std.proofs.Common.{rules}
use Rattle.answers.proofs.SameAnswer.{passed_up}
use mathlib.Core.Path.{refl}
use mathlib.Core.Path.{◌≡◌, sym, ◌∙◌}
use mathlib.Core.List.{[], ◌∷◌}
use mathlib.Core.Bool.{Bool, true}
use Prim.Native.Nat.{◌-◌, ◌/◌}
use native.Mathlib.Omega.{arith}
use Rattle.answers.specs.Checks.{◌when◌, none_holds}
use Rattle.patterns.proofs.SizeLaws.{rows_least}
use Rattle.fill.specs.Promise.{wrong_outputs}
use Rattle.pattern_bytes.specs.Checks.{byte_checks}
use Rattle.pattern_bytes.proofs.PassLaws.{stopped, passed, not_too_large, well_formed}
use Rattle.fill_bytes.specs.Checks.{broken_fill}
use Rattle.fill_bytes.proofs.check_ilu0.Goals as goal

pub returns-in_err-check_bytes : goal.returns-in_err-check_bytes
returns-in_err-check_bytes c =
    let on = passed_up {answer = c.from_residual.result} (search rules) c.in_err-check_bytes.ensures in
    let torn : Bool = let a = c.args in broken_fill a.starts a.entries a.offsets a.columns a.splits in
    let a = c.args in
    stopped a.starts a.entries torn _
    (rw c.is_broken_fill-broken.ensures at on.number)
    ((2 when wrong_outputs (a.starts / 4 - 1) (a.offsets / 4) (a.columns / 4) (a.splits / 4)) ∷ []) on.counts

pub overflow_sub-starts : goal.overflow_sub-starts
overflow_sub-starts c =
    let torn : Bool = let a = c.args in broken_fill a.starts a.entries a.offsets a.columns a.splits in
    -- past the checks of the bytes
    let none : (let a = c.args in
    none_holds (byte_checks a.starts a.entries torn) ≡ true) = let a = c.args in
    passed a.starts a.entries torn (Ok tt)
    (rw c.is_broken_fill-broken.ensures at c.in_ok-check_bytes.ensures) refl in
    let a = c.args in
    omega (arith, rows_least (a.starts / 4) (a.entries / 4) (not_too_large a.starts a.entries torn none))

pub returns-then-is_wrong_output : goal.returns-then-is_wrong_output
returns-then-is_wrong_output c =
    let torn : Bool = let a = c.args in broken_fill a.starts a.entries a.offsets a.columns a.splits in
    -- past the checks of the bytes
    let none : (let a = c.args in
    none_holds (byte_checks a.starts a.entries torn) ≡ true) = let a = c.args in
    passed a.starts a.entries torn (Ok tt)
    (rw c.is_broken_fill-broken.ensures at c.in_ok-check_bytes.ensures) refl in
    let a = c.args in
    rw (not_too_large a.starts a.entries torn none, well_formed a.starts a.entries torn none, sym c.is_wrong_output.ensures ∙ c.if-is_wrong_output.true)

pub returns : goal.returns
returns c =
    let torn : Bool = let a = c.args in broken_fill a.starts a.entries a.offsets a.columns a.splits in
    -- past the checks of the bytes
    let none : (let a = c.args in
    none_holds (byte_checks a.starts a.entries torn) ≡ true) = let a = c.args in
    passed a.starts a.entries torn (Ok tt)
    (rw c.is_broken_fill-broken.ensures at c.in_ok-check_bytes.ensures) refl in
    let a = c.args in
    rw (not_too_large a.starts a.entries torn none, well_formed a.starts a.entries torn none, sym c.is_wrong_output.ensures ∙ c.if-is_wrong_output.false)
