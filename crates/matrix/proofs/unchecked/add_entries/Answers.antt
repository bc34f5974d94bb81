-- `unchecked::add_entries` meets its promise: each entry's block is in the values, and its column's row in x.
-- Assumes nothing.
use Rattle.std.proofs.Common.{◌+◌, ◌*◌, length, arith, rules}
use Rattle.base.proofs.Sizes.{part_fits}
use Rattle.matrix.proofs.unchecked.add_entries.Goals as goal

pub add_product-sum-requires : goal.add_product-sum-requires
add_product-sum-requires g c =
    let a = c.args in
    let n = g.S.Size.DIM in (
      part_fits (n * n) (a.first + c.loop-k.k) (a.first + length a.row.now) (length a.values.now) (omega arith) c.requires.stored,
      c.requires.seen c.loop-k.k (search rules),
    )
