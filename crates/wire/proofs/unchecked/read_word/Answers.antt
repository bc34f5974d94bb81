-- `unchecked::read_word` meets its promise: the eight bytes are those of the word.
-- Assumes nothing.
use mathlib.Core.Path.{◌∙◌}
use Rattle.wire.proofs.LoopLaws.{eight_bytes}
use Rattle.wire.proofs.unchecked.read_word.Goals as goal

pub returns : goal.returns
returns c = c.from_le_bytes.ensures ∙ eight_bytes c.args.bytes.now c.args.at c.requires
