-- `is_misshapen` meets its promise: each return is the first wrong thing, and the last test decides.
-- Assumes nothing.
use mathlib.Core.Path.{sym, ◌∙◌}
use Rattle.matrix_bytes.proofs.is_misshapen.Goals as goal

pub returns-then-is_no_dim : goal.returns-then-is_no_dim
returns-then-is_no_dim c = rw (sym c.is_no_dim.ensures ∙ c.if-is_no_dim.true)

pub returns-then-is_broken_pattern : goal.returns-then-is_broken_pattern
returns-then-is_broken_pattern c =
    rw (sym c.is_no_dim.ensures ∙ c.if-is_no_dim.false, sym c.is_broken_pattern.ensures ∙ c.if-is_broken_pattern.true)

pub returns-then-is_broken_value : goal.returns-then-is_broken_value
returns-then-is_broken_value c =
    rw (sym c.is_no_dim.ensures ∙ c.if-is_no_dim.false, sym c.is_broken_pattern.ensures ∙ c.if-is_broken_pattern.false, sym c.is_broken_value.ensures ∙ c.if-is_broken_value.true)

pub returns : goal.returns
returns c =
    rw (sym c.is_no_dim.ensures ∙ c.if-is_no_dim.false, sym c.is_broken_pattern.ensures ∙ c.if-is_broken_pattern.false, sym c.is_broken_value.ensures ∙ c.if-is_broken_value.false)
    c.is_broken_value-2.ensures
