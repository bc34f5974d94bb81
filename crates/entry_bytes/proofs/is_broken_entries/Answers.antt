-- `is_broken_entries` meets its promise: the first slice that is broken decides.
-- Assumes nothing.
use mathlib.Core.Path.{sym, ◌∙◌}
use Rattle.entry_bytes.proofs.is_broken_entries.Goals as goal

pub returns-then-is_broken_index : goal.returns-then-is_broken_index
returns-then-is_broken_index c = rw (sym c.is_broken_index.ensures ∙ c.if-is_broken_index.true)

pub returns-then-is_broken_index-2 : goal.returns-then-is_broken_index-2
returns-then-is_broken_index-2 c = rw (sym c.is_broken_index.ensures ∙ c.if-is_broken_index.false, sym c.is_broken_index-2.ensures ∙ c.if-is_broken_index-2.true)

pub returns-then-is_broken_value : goal.returns-then-is_broken_value
returns-then-is_broken_value c = rw (sym c.is_broken_index.ensures ∙ c.if-is_broken_index.false, sym c.is_broken_index-2.ensures ∙ c.if-is_broken_index-2.false, sym c.is_broken_value.ensures ∙ c.if-is_broken_value.true)

pub returns-then-is_broken_pattern : goal.returns-then-is_broken_pattern
returns-then-is_broken_pattern c = rw (sym c.is_broken_index.ensures ∙ c.if-is_broken_index.false, sym c.is_broken_index-2.ensures ∙ c.if-is_broken_index-2.false, sym c.is_broken_value.ensures ∙ c.if-is_broken_value.false, sym c.is_broken_pattern.ensures ∙ c.if-is_broken_pattern.true)

pub returns : goal.returns
returns c = rw (sym c.is_broken_index.ensures ∙ c.if-is_broken_index.false, sym c.is_broken_index-2.ensures ∙ c.if-is_broken_index-2.false, sym c.is_broken_value.ensures ∙ c.if-is_broken_value.false, sym c.is_broken_pattern.ensures ∙ c.if-is_broken_pattern.false) c.is_broken_value-2.ensures
