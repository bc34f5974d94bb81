-- `check_bytes` meets its promise: each return answers the first check whose condition holds.
-- Assumes nothing.
use mathlib.Core.Path.{sym, ◌∙◌}
use Rattle.pattern_bytes.proofs.check_bytes.Goals as goal

pub returns-then-is_too_large : goal.returns-then-is_too_large
returns-then-is_too_large c = rw (sym c.is_too_large.ensures ∙ c.if-is_too_large.true)

pub returns-then-misshapen : goal.returns-then-misshapen
returns-then-misshapen c = rw (sym c.is_too_large.ensures ∙ c.if-is_too_large.false, c.if-misshapen.true)

pub returns : goal.returns
returns c = rw (sym c.is_too_large.ensures ∙ c.if-is_too_large.false, c.if-misshapen.false)
