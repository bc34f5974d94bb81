-- `unchecked::solve_words` meets its promise: parts of its arrays are room for the words of the vectors.
-- Assumes nothing.
use mathlib.Core.Path.{sym}
use lib.Ieee.{binary64, of_bits}
use Rattle.pattern_bytes.proofs.RoomLaws.{part_of_room}
use Rattle.matrix_bytes.proofs.WayLaws.{fills}
use Rattle.preconditioned_room.proofs.unchecked.solve_words.Goals as goal

pub slice_bounds-residual-end : goal.slice_bounds-residual-end
slice_bounds-residual-end c = c.requires.0.of_r.few

pub slice_bounds-solve_vectors-end : goal.slice_bounds-solve_vectors-end
slice_bounds-solve_vectors-end c = sym (part_of_room 12288 _ (of_bits binary64 0) c.requires.0.of_r.few)

pub slice_bounds-solution-end : goal.slice_bounds-solution-end
slice_bounds-solution-end c = c.requires.0.of_x.few

pub slice_bounds-solve_vectors-end-2 : goal.slice_bounds-solve_vectors-end-2
slice_bounds-solve_vectors-end-2 c = sym (part_of_room 12288 _ (of_bits binary64 0) c.requires.0.of_x.few)

pub slice_bounds-product-end : goal.slice_bounds-product-end
slice_bounds-product-end c = c.requires.0.of_q.few

pub slice_bounds-solve_vectors-end-3 : goal.slice_bounds-solve_vectors-end-3
slice_bounds-solve_vectors-end-3 c = sym (part_of_room 12288 _ (of_bits binary64 0) c.requires.0.of_q.few)

pub slice_bounds-direction-end : goal.slice_bounds-direction-end
slice_bounds-direction-end c = c.requires.0.of_p.few

pub slice_bounds-solve_vectors-end-4 : goal.slice_bounds-solve_vectors-end-4
slice_bounds-solve_vectors-end-4 c = sym (part_of_room 12288 _ (of_bits binary64 0) c.requires.0.of_p.few)

pub slice_bounds-numbers-end : goal.slice_bounds-numbers-end
slice_bounds-numbers-end c = c.requires.0.few

pub slice_bounds-solve_vectors-end-5 : goal.slice_bounds-solve_vectors-end-5
slice_bounds-solve_vectors-end-5 c = sym (part_of_room 4098 _ (of_bits binary64 0) c.requires.0.few)

pub solve_vectors-requires : goal.solve_vectors-requires
solve_vectors-requires c =
    let held = c.requires.0 in (
      held,
      c.requires.1,
      record {
        of_r = fills 8 12288 _ _ held.of_r (part_of_room 12288 _ (of_bits binary64 0) held.of_r.few);
        of_x = fills 8 12288 _ _ held.of_x (part_of_room 12288 _ (of_bits binary64 0) held.of_x.few);
        of_q = fills 8 12288 _ _ held.of_q (part_of_room 12288 _ (of_bits binary64 0) held.of_q.few);
        of_p = fills 8 12288 _ _ held.of_p (part_of_room 12288 _ (of_bits binary64 0) held.of_p.few);
      },
      part_of_room 4098 _ (of_bits binary64 0) held.few,
    )

pub shape_of-r : goal.shape_of-r
shape_of-r c = c.solve_vectors.auto.r

pub shape_of-x : goal.shape_of-x
shape_of-x c = c.solve_vectors.auto.x

pub shape_of-pr : goal.shape_of-pr
shape_of-pr c = c.solve_vectors.auto.pr

pub shape_of-p : goal.shape_of-p
shape_of-p c = c.solve_vectors.auto.p

pub shape_of-history : goal.shape_of-history
shape_of-history c = c.solve_vectors.auto.history

pub returns : goal.returns
returns c = c.solve_vectors.ensures
