-- `unchecked::check_rows` meets its promise: found right by the quick way, or each return answers the first rule that is broken.
-- Assumes nothing.
use mathlib.Core.Path.{sym, ◌∙◌}
use Rattle.factor_check.proofs.unchecked.check_rows.Goals as goal

pub returns-then-is_surely_right : goal.returns-then-is_surely_right
returns-then-is_surely_right c = let right = c.is_surely_right.ensures c.if-is_surely_right.true in rw (right.0, right.1)

pub returns-then-not-is_valid_pattern : goal.returns-then-not-is_valid_pattern
returns-then-not-is_valid_pattern c = rw (sym c.is_valid_pattern.ensures ∙ c.if-not-is_valid_pattern.true)

pub has_valid_splits-requires : goal.has_valid_splits-requires
has_valid_splits-requires c =
    (c.requires.0, c.requires.1, sym c.is_valid_pattern.ensures ∙ c.if-not-is_valid_pattern.false)

pub returns-then-not-has_valid_splits : goal.returns-then-not-has_valid_splits
returns-then-not-has_valid_splits c =
    rw (sym c.is_valid_pattern.ensures ∙ c.if-not-is_valid_pattern.false, sym c.has_valid_splits.ensures ∙ c.if-not-has_valid_splits.true)

pub returns : goal.returns
returns c =
    rw (sym c.is_valid_pattern.ensures ∙ c.if-not-is_valid_pattern.false, sym c.has_valid_splits.ensures ∙ c.if-not-has_valid_splits.false)
