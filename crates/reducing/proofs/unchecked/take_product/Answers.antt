-- `unchecked::take_product` meets its promise: the product is taken from the diagonal, from the entry that is found, or from nothing.
-- Assumes nothing.
use Prim.Native.Nat.{◌+◌, ◌<◌}
use native.Mathlib.Omega.{arith}
use lib.ListN.{length}
use lib.Ieee.{binary64}
use Rattle.reducing.proofs.FitLaws.{entry_within, column_small, found_below}
use Rattle.reducing.proofs.Joined.{on_diagonal, at_entry, dropped}
use Rattle.reducing.proofs.unchecked.take_product.Goals as goal

pub overflow_cast-j : goal.overflow_cast-j
overflow_cast-j g c = record { fits = omega (arith, c.shared_slice_known-3-1.given c.args.g) }

pub returns-then-j-i : goal.returns-then-j-i
returns-then-j-i g c =
    let a = c.args in
    λ offsets splits on. on_diagonal binary64 g.S.Size.DIM offsets a.columns.now splits a.i a.row.now a.from on a.e a.g a.diagonal.now a.values.now
    c.if-j-i.true _ _ _ c.block_at-lower.ensures c.block_at-upper.ensures c.less_product.ensures

pub block_at-lower-requires : goal.block_at-lower-requires
block_at-lower-requires g c = entry_within c.requires.0 c.args.e c.requires.1

pub block_at-upper-requires : goal.block_at-upper-requires
block_at-upper-requires g c = entry_within c.requires.0 c.args.g c.requires.2

pub block_at-lower-requires-then-place : goal.block_at-lower-requires-then-place
block_at-lower-requires-then-place g c = entry_within c.requires.0 c.args.e c.requires.1

pub block_at-upper-requires-then-place : goal.block_at-upper-requires-then-place
block_at-upper-requires-then-place g c = entry_within c.requires.0 c.args.g c.requires.2

pub place_of-place-requires : goal.place_of-place-requires
place_of-place-requires g c = (c.requires.0.markable, c.requires.0.marked, column_small c.requires.0 c.args.g c.requires.2)

pub less_product-requires-then-place : goal.less_product-requires-then-place
less_product-requires-then-place g c =
    -- an entry that is found is one of the columns
    let found : c.args.from + c.place_of-place.result < length c.args.columns.now = found_below c.requires.0 _ c.place_of-place.result c.place_of-place.ensures c.if-place.true in
    entry_within c.requires.0 _ found

pub returns-then-place : goal.returns-then-place
returns-then-place g c =
    let a = c.args in
    λ offsets splits on. at_entry binary64 g.S.Size.DIM offsets a.columns.now splits a.i a.row.now a.from on a.e a.g a.diagonal.now a.values.now
    c.if-j-i.false _ c.place_of-place.ensures c.if-place.true _ _ _ c.block_at-lower-then-place.ensures c.block_at-upper-then-place.ensures c.less_product-then-place.ensures

pub returns-else-place : goal.returns-else-place
returns-else-place g c =
    let a = c.args in
    λ offsets splits on. dropped binary64 g.S.Size.DIM offsets a.columns.now splits a.i a.row.now a.from on a.e a.g a.diagonal.now a.values.now
    c.if-j-i.false _ c.place_of-place.ensures c.if-place.false
