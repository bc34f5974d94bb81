-- `unchecked::encode_indexes` meets its promise: an index is its word.
-- Assumes nothing.
use mathlib.Core.Path.{ap, ◌∙◌}
use mathlib.Core.List.{map-id}
use Rattle.wire.specs.Bytes.{bytes_of_words}
use Rattle.wire.specs.Words.{bytes_of_indexes}
use Rattle.wire.proofs.unchecked.encode_indexes.Goals as goal

pub returns : goal.returns
unfolding bytes_of_indexes
returns c = c.write_all.ensures ∙ ap (bytes_of_words 4) (map-id c.args.indexes.now)
