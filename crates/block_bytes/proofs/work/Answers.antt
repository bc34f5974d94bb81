-- `work` meets its promise: a part of nine values is room for those of the operation.
-- Assumes nothing.
use mathlib.Core.Path.{◌≡◌, sym}
use mathlib.Core.List.{List}
use Prim.Native.Nat.{ℕ, ◌≤◌}
use lib.ListN.{length, take, replicate}
use lib.Seq.{length-take-le}
use lib.Ieee.{Float, binary64, of_bits}
use Rattle.block_bytes.proofs.OperationLaws.{roomy}
use Rattle.block_bytes.proofs.work.Goals as goal

-- the room as it is made
abbrev zeros : List Float
zeros = replicate 9 (of_bits binary64 0)

counted_out : (m : ℕ) → m ≤ 9 → length (take m zeros) ≡ m
counted_out m few = length-take-le m zeros few

pub slice_bounds-work_in-end : goal.slice_bounds-work_in-end
slice_bounds-work_in-end g c = sym (counted_out _ c.first_count-first.ensures.1)

pub slice_bounds-work_in-end-2 : goal.slice_bounds-work_in-end-2
slice_bounds-work_in-end-2 g c = sym (counted_out _ c.second_count-second.ensures.1)

pub slice_bounds-work_in-end-3 : goal.slice_bounds-work_in-end-3
slice_bounds-work_in-end-3 g c = sym (counted_out _ c.second_count-second.ensures.1)

pub work_in-requires : goal.work_in-requires
work_in-requires g c =
    let p = c.first_count-first in
    let q = c.second_count-second in
    let room = counted_out q.result q.ensures.1 in
    (roomy _ _ _ _ _ _ _ c.requires.dim (rw c.DIM-n.ensures at p.ensures.0) (rw c.DIM-n.ensures at q.ensures.0) (counted_out p.result p.ensures.1) room room, c.requires)
