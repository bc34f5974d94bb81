-- `unchecked::is_valid_entries` meets its promise: with the own column accepted the rules are those of entries.
-- Assumes nothing.
use mathlib.Core.Path.{◌∙◌}
use Rattle.patterns.proofs.RowLaws.{valid_entries_lem}
use Rattle.patterns.proofs.unchecked.is_valid_entries.Goals as goal

pub returns : goal.returns
returns c = c.is_valid.ensures ∙ valid_entries_lem _ _
