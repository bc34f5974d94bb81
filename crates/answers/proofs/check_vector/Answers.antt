-- `check_vector` meets its promise: each return answers the first check whose condition holds.
-- Assumes nothing.
use mathlib.Core.Path.{sym, ◌∙◌}
use Rattle.answers.proofs.check_vector.Goals as goal

pub returns-then-out_of_range : goal.returns-then-out_of_range
returns-then-out_of_range c = rw (sym c.out_of_range.ensures ∙ c.if-out_of_range.true)

pub returns-then-wrong_length : goal.returns-then-wrong_length
returns-then-wrong_length c =
    rw (sym c.out_of_range.ensures ∙ c.if-out_of_range.false, sym c.wrong_length.ensures ∙ c.if-wrong_length.true)

pub returns : goal.returns
returns c =
    rw (sym c.out_of_range.ensures ∙ c.if-out_of_range.false, sym c.wrong_length.ensures ∙ c.if-wrong_length.false)
