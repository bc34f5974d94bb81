-- `check_words` meets its promise: each kind has its own call.
-- Assumes nothing.
use Rattle.pattern_bytes.proofs.check_words.Goals as goal

pub returns-in-Pattern : goal.returns-in-Pattern
returns-in-Pattern c = rw c.in-Pattern.is c.check_pattern.ensures

pub returns-in-Entries : goal.returns-in-Entries
returns-in-Entries c = rw c.in-Entries.is c.check_entries.ensures

pub returns-in-Factor : goal.returns-in-Factor
returns-in-Factor c = rw c.in-Factor.is c.check_factor.ensures
