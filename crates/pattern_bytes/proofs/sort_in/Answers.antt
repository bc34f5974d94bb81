-- `sort_in` meets its promise: what was read is sorted, and that is written.
-- Assumes nothing.
use mathlib.Core.Path.{◌∙◌, ap}
use mathlib.Core.List.{List}
use Prim.Native.Nat.{ℕ}
use Rattle.rows.specs.Sort.{sort_of}
use Rattle.wire.specs.Words.{bytes_of_indexes}
use Rattle.pattern_bytes.proofs.sort_in.Goals as goal

pub returns : goal.returns
returns c = c.encode_indexes.ensures ∙ ap (λ (l : List ℕ). bytes_of_indexes l) c.sort.ensures ∙ ap (λ (l : List ℕ). bytes_of_indexes (sort_of l)) c.decode_indexes.ensures
