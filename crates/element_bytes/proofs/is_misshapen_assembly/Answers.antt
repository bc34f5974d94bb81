-- `is_misshapen_assembly` meets its promise, on its two ways out.
-- Assumes nothing.
use mathlib.Core.Path.{sym, ◌∙◌}
use Rattle.answers.specs.Limits.{outside_of}
use Rattle.pattern_bytes.specs.Checks.{broken}
use Rattle.entry_bytes.specs.Checks.{broken_entries}
use Rattle.element_bytes.proofs.SizeLaws.{one_more, last_decides}
use Rattle.element_bytes.proofs.is_misshapen_assembly.Goals as goal

pub returns-then-is_misshapen_entries : goal.returns-then-is_misshapen_entries
returns-then-is_misshapen_entries c =
    let a = c.args in
    one_more (outside_of 1 3 a.dim) (broken_entries a.rows a.cols a.element a.offsets a.columns a.values) (broken 8 a.diagonal)
    (sym c.is_misshapen_entries.ensures ∙ c.if-is_misshapen_entries.true)

pub returns : goal.returns
returns c =
    let a = c.args in
    c.is_broken_value.ensures
    ∙ last_decides (outside_of 1 3 a.dim) (broken_entries a.rows a.cols a.element a.offsets a.columns a.values) (broken 8 a.diagonal)
    (sym c.is_misshapen_entries.ensures ∙ c.if-is_misshapen_entries.false)
