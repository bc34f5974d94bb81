-- `check_in` meets its promise: the words are those of the bytes.
-- Assumes nothing.
use Rattle.pattern_bytes.proofs.check_in.Goals as goal

pub returns : goal.returns
returns c = rw (← c.decode_pattern.ensures.0, ← c.decode_pattern.ensures.1, ← c.decode_indexes.ensures) c.check_words.ensures
