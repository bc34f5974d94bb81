-- `work_in_full_room` meets its promise: a part of 12,288 words is room for those of the call.
-- Assumes nothing.
use mathlib.Core.Path.{sym}
use lib.IntN.{pos}
use lib.ListN.{length}
use lib.Ieee.{binary64, of_bits}
use Rattle.vector_bytes.specs.Operations.{second_of, lent_of}
use Rattle.vector_bytes.proofs.WayLaws.{part_of_room, roomy}
use Rattle.vector_bytes.proofs.work_in_full_room.Goals as goal

pub slice_bounds-work_in-end : goal.slice_bounds-work_in-end
slice_bounds-work_in-end c = sym (part_of_room 12288 _ (of_bits binary64 0) c.requires.2)

pub slice_bounds-work_in-end-2 : goal.slice_bounds-work_in-end-2
slice_bounds-work_in-end-2 c = sym (part_of_room 12288 _ (of_bits binary64 0) c.requires.2)

pub slice_bounds-work_in-end-3 : goal.slice_bounds-work_in-end-3
slice_bounds-work_in-end-3 c = sym (part_of_room 12288 _ (pos 0) c.requires.2)

pub work_in-requires : goal.work_in-requires
work_in-requires c =
    let a = c.args in
    let few = c.requires.2 in (
      roomy a.n a.dim (lent_of binary64 (second_of a.op) (length a.out.now) (length a.b.now)) a.count _ _ _ c.requires.0 c.requires.1
          (part_of_room 12288 a.count (of_bits binary64 0) few) (part_of_room 12288 a.count (of_bits binary64 0) few) (part_of_room 12288 a.count (pos 0) few),
      c.requires.0,
    )
