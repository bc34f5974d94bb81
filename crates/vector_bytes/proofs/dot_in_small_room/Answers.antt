-- `dot_in_small_room` meets its promise: a part of 96 values is room for those of the call.
-- Assumes nothing.
use mathlib.Core.Path.{sym}
use mathlib.Core.List.{[], ◌∷◌}
use lib.ListN.{length}
use lib.Ieee.{binary64, of_bits}
use Rattle.vector_bytes.specs.Checks.{words}
use Rattle.vector_bytes.proofs.WayLaws.{part_of_room, roomy}
use Rattle.vector_bytes.proofs.dot_in_small_room.Goals as goal

pub slice_bounds-dot_in-end : goal.slice_bounds-dot_in-end
slice_bounds-dot_in-end c = sym (part_of_room 96 _ (of_bits binary64 0) c.requires.2)

pub slice_bounds-dot_in-end-2 : goal.slice_bounds-dot_in-end-2
slice_bounds-dot_in-end-2 c = sym (part_of_room 96 _ (of_bits binary64 0) c.requires.2)

pub dot_in-requires : goal.dot_in-requires
dot_in-requires c =
    let a = c.args in
    let long = part_of_room 96 a.count (of_bits binary64 0) c.requires.2 in (
      roomy a.n a.dim (words 8 (length a.a.now) ∷ words 8 (length a.b.now) ∷ []) a.count _ _ _ c.requires.0 c.requires.1 long long long,
      c.requires.0,
    )
