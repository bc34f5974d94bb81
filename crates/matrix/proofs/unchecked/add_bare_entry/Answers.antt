-- `unchecked::add_bare_entry` meets its promise: the entry's block is in the values, and its column's row in x.
-- Assumes nothing.
use Rattle.std.proofs.Common.{◌+◌, ◌*◌, length, arith}
use Rattle.base.proofs.Sizes.{part_fits}
use Rattle.matrix.specs.Product.{add_entry}
use Rattle.matrix.proofs.unchecked.add_bare_entry.Goals as goal

pub add_bare-requires : goal.add_bare-requires
add_bare-requires g c =
    let a = c.args in
    let n = g.S.Size.DIM in (
      part_fits (n * n) (a.first + a.k) (a.first + length a.row.now) (length a.values.now) (omega arith) c.requires.0.stored,
      c.requires.0.seen a.k c.requires.1,
    )

pub returns : goal.returns
unfolding add_entry
returns g c = c.add_bare.ensures.1
