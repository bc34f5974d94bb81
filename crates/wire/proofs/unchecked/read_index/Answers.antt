-- `unchecked::read_index` meets its promise: the four bytes are those of the word.
-- Assumes nothing.
use mathlib.Core.Path.{◌∙◌}
use Rattle.wire.proofs.LoopLaws.{four_bytes}
use Rattle.wire.proofs.unchecked.read_index.Goals as goal

pub returns : goal.returns
returns c = c.from_le_bytes.ensures ∙ four_bytes c.args.bytes.now c.args.at c.requires
