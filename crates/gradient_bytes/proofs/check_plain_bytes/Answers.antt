-- `check_plain_bytes` meets its promise: each return answers the first check that holds.
-- Assumes nothing.
use mathlib.Core.Path.{sym, ◌∙◌}
use mathlib.Core.Bool.{Bool}
use Prim.Native.Nat.{◌-◌, ◌/◌}
use Rattle.solvers.specs.Checks.{wrong_plain}
use Rattle.gradient_bytes.specs.Checks.{misshapen_plain}
use Rattle.gradient_bytes.proofs.CheckLaws.{wrong_is_two, right_is_none}
use Rattle.gradient_bytes.proofs.check_plain_bytes.Goals as goal

pub returns-then-is_too_large : goal.returns-then-is_too_large
returns-then-is_too_large c = rw (sym c.is_too_large.ensures ∙ c.if-is_too_large.true)

pub returns-then-out_of_range : goal.returns-then-out_of_range
returns-then-out_of_range c = rw (sym c.is_too_large.ensures ∙ c.if-is_too_large.false, sym c.out_of_range.ensures ∙ c.if-out_of_range.true)

pub is_wrong-requires : goal.is_wrong-requires
is_wrong-requires c = sym c.is_too_large.ensures ∙ c.if-is_too_large.false

pub returns-then-is_wrong : goal.returns-then-is_wrong
returns-then-is_wrong c =
    -- what is wrong of the bytes, and of the lengths
    let of_bytes : Bool = let a = c.args in misshapen_plain a.dim a.offsets a.columns a.values a.diagonal a.r a.u a.ap a.p a.history in
    let ofLengths : Bool = let a = c.args in
    wrong_plain a.dim a.limit (a.offsets / 4 - 1) (a.columns / 4) (a.values / 8) (a.diagonal / 8) (a.r / 8) (a.u / 8) (a.ap / 8) (a.p / 8) (a.history / 8) in
    rw (sym c.is_too_large.ensures ∙ c.if-is_too_large.false, sym c.out_of_range.ensures ∙ c.if-out_of_range.false) (wrong_is_two of_bytes ofLengths (sym c.is_wrong.ensures ∙ c.if-is_wrong.true))

pub returns : goal.returns
returns c =
    -- what is wrong of the bytes, and of the lengths
    let of_bytes : Bool = let a = c.args in misshapen_plain a.dim a.offsets a.columns a.values a.diagonal a.r a.u a.ap a.p a.history in
    let ofLengths : Bool = let a = c.args in
    wrong_plain a.dim a.limit (a.offsets / 4 - 1) (a.columns / 4) (a.values / 8) (a.diagonal / 8) (a.r / 8) (a.u / 8) (a.ap / 8) (a.p / 8) (a.history / 8) in
    rw (sym c.is_too_large.ensures ∙ c.if-is_too_large.false, sym c.out_of_range.ensures ∙ c.if-out_of_range.false) (right_is_none of_bytes ofLengths (sym c.is_wrong.ensures ∙ c.if-is_wrong.false))
