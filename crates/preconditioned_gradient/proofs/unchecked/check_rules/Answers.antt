-- `unchecked::check_rules` meets its promise: each return answers the first rule that does not hold.
-- Assumes nothing.
use mathlib.Core.Path.{◌≡◌, sym, ◌∙◌}
use mathlib.Core.Bool.{true}
use Rattle.patterns.specs.Pattern.{valid_pattern}
use Rattle.preconditioned_gradient.proofs.unchecked.check_rules.Goals as goal

pub returns-then-not-is_valid_pattern : goal.returns-then-not-is_valid_pattern
returns-then-not-is_valid_pattern c = rw (sym c.is_valid_pattern.ensures ∙ c.if-not-is_valid_pattern.true)

pub check_rows-requires : goal.check_rows-requires
check_rows-requires c = (c.requires.1, c.requires.2)

pub returns : goal.returns
returns c =
    let valid : valid_pattern c.args.starts.now c.args.entries.now ≡ true = sym c.is_valid_pattern.ensures ∙ c.if-not-is_valid_pattern.false in
    rw valid c.check_rows.ensures
