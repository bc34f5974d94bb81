-- `unchecked::is_valid_pattern` meets its promise: with the own column refused the rules are those of a valid pattern.
-- Assumes nothing.
use mathlib.Core.Path.{◌∙◌}
use Rattle.patterns.proofs.RowLaws.{valid_pattern_lem}
use Rattle.patterns.proofs.unchecked.is_valid_pattern.Goals as goal

pub returns : goal.returns
returns c = c.is_valid.ensures ∙ valid_pattern_lem _ _
