-- `check` meets its promise: each return answers the first check whose condition holds.
-- Assumes nothing.
use mathlib.Core.Path.{sym, ◌∙◌}
use Rattle.vector_bytes.proofs.CheckLaws.{few_rows}
use Rattle.vector_bytes.proofs.check.Goals as goal

pub returns-then-out_of_range : goal.returns-then-out_of_range
returns-then-out_of_range c = rw (sym c.out_of_range.ensures ∙ c.if-out_of_range.true)

pub is_misshapen-requires : goal.is_misshapen-requires
is_misshapen-requires c = few_rows c.args.n (sym c.out_of_range.ensures ∙ c.if-out_of_range.false)

pub returns-then-is_misshapen : goal.returns-then-is_misshapen
returns-then-is_misshapen c =
    rw (sym c.out_of_range.ensures ∙ c.if-out_of_range.false, sym c.is_misshapen.ensures ∙ c.if-is_misshapen.true)

pub returns : goal.returns
returns c =
    rw (sym c.out_of_range.ensures ∙ c.if-out_of_range.false, sym c.is_misshapen.ensures ∙ c.if-is_misshapen.false)
