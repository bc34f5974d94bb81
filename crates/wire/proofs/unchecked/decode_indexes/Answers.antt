-- `unchecked::decode_indexes` meets its promise: an index is its word.
-- Assumes nothing.
use mathlib.Core.Path.{◌∙◌}
use mathlib.Core.List.{map-id}
use Rattle.wire.specs.Bytes.{words_in}
use Rattle.wire.specs.Words.{indexes_in}
use Rattle.wire.proofs.unchecked.decode_indexes.Goals as goal

pub returns : goal.returns
unfolding indexes_in
returns c = c.read_all.ensures ∙ map-id (words_in 4 c.args.bytes.now)
