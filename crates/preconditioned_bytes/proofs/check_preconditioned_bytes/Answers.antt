-- `check_preconditioned_bytes` meets its promise: each return answers the first check that holds.
-- Assumes nothing.
use mathlib.Core.Path.{sym, ◌∙◌}
use mathlib.Core.Bool.{Bool}
use Prim.Native.Nat.{◌-◌, ◌/◌}
use Rattle.base.proofs.All.{or_left, or_right}
use Rattle.patterns.specs.Checks.{too_large}
use Rattle.solvers.specs.Checks.{wrong_preconditioned}
use Rattle.preconditioned_bytes.specs.Checks.{misshapen_preconditioned}
use Rattle.preconditioned_bytes.proofs.CheckLaws.{wrong_is_two, right_is_none}
use Rattle.preconditioned_bytes.proofs.check_preconditioned_bytes.Goals as goal

pub returns-then-is_either_too_large : goal.returns-then-is_either_too_large
returns-then-is_either_too_large c = rw (sym c.is_either_too_large.ensures ∙ c.if-is_either_too_large.true)

pub returns-then-out_of_range : goal.returns-then-out_of_range
returns-then-out_of_range c = rw (sym c.is_either_too_large.ensures ∙ c.if-is_either_too_large.false, sym c.out_of_range.ensures ∙ c.if-out_of_range.true)

pub is_wrong-requires : goal.is_wrong-requires
is_wrong-requires c =
    let a = c.args in
    let small = sym c.is_either_too_large.ensures ∙ c.if-is_either_too_large.false in
    (or_left (too_large (a.starts / 4) (a.entries / 4)) (too_large (a.offsets / 4) (a.columns / 4)) small, or_right (too_large (a.starts / 4) (a.entries / 4)) (too_large (a.offsets / 4) (a.columns / 4)) small)

pub returns-then-is_wrong : goal.returns-then-is_wrong
returns-then-is_wrong c =
    -- what is wrong of the bytes, and of the lengths
    let of_bytes : Bool = let a = c.args in
    misshapen_preconditioned a.dim a.starts a.entries a.a_values a.a_diagonal a.offsets a.columns a.splits a.diagonal a.values a.r a.x a.pr a.p a.history in
    let ofLengths : Bool = let a = c.args in
    wrong_preconditioned a.dim a.limit (a.starts / 4 - 1) (a.entries / 4) (a.a_values / 8) (a.a_diagonal / 8) (a.offsets / 4 - 1) (a.columns / 4) (a.splits / 4) (a.diagonal / 8) (a.values / 8) (a.r / 8) (a.x / 8) (a.pr / 8) (a.p / 8) (a.history / 8) in
    rw (sym c.is_either_too_large.ensures ∙ c.if-is_either_too_large.false, sym c.out_of_range.ensures ∙ c.if-out_of_range.false) (wrong_is_two of_bytes ofLengths (sym c.is_wrong.ensures ∙ c.if-is_wrong.true))

pub returns : goal.returns
returns c =
    -- what is wrong of the bytes, and of the lengths
    let of_bytes : Bool = let a = c.args in
    misshapen_preconditioned a.dim a.starts a.entries a.a_values a.a_diagonal a.offsets a.columns a.splits a.diagonal a.values a.r a.x a.pr a.p a.history in
    let ofLengths : Bool = let a = c.args in
    wrong_preconditioned a.dim a.limit (a.starts / 4 - 1) (a.entries / 4) (a.a_values / 8) (a.a_diagonal / 8) (a.offsets / 4 - 1) (a.columns / 4) (a.splits / 4) (a.diagonal / 8) (a.values / 8) (a.r / 8) (a.x / 8) (a.pr / 8) (a.p / 8) (a.history / 8) in
    rw (sym c.is_either_too_large.ensures ∙ c.if-is_either_too_large.false, sym c.out_of_range.ensures ∙ c.if-out_of_range.false) (right_is_none of_bytes ofLengths (sym c.is_wrong.ensures ∙ c.if-is_wrong.false))
