-- `is_either_too_large` meets its promise: the first pattern that is too large decides.
-- Assumes nothing.
use mathlib.Core.Path.{sym, ◌∙◌}
use Rattle.numbered_preconditioned.proofs.is_either_too_large.Goals as goal

pub returns-then-is_too_large : goal.returns-then-is_too_large
returns-then-is_too_large c = rw (sym c.is_too_large.ensures ∙ c.if-is_too_large.true)

pub returns : goal.returns
returns c = rw (sym c.is_too_large.ensures ∙ c.if-is_too_large.false) c.is_too_large-2.ensures
