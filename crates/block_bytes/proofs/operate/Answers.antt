-- `operate` meets its promise, on each operation's way.
-- Assumes nothing.
use lib.Ieee.{binary64}
use Rattle.block_bytes.proofs.OperationLaws.{left_apply, left_product, left_scale, left_add, left_subtract, left_add_block, left_subtract_block, left_inverse}
use Rattle.block_bytes.proofs.operate.Goals as goal

pub returns-in-Apply : goal.returns-in-Apply
returns-in-Apply g c =
    let a = c.args in
    let told = c.in-Apply.is in
    rw told (left_apply binary64 g.S.Size.DIM a.s a.x.now a.y.now a.z.now _ (rw told at c.requires) c.apply_each.ensures)

pub returns-in-Product : goal.returns-in-Product
returns-in-Product g c =
    let a = c.args in
    let told = c.in-Product.is in
    rw told (left_product binary64 g.S.Size.DIM a.s a.x.now a.y.now a.z.now _ (rw told at c.requires) c.product_each.ensures)

pub returns-in-Scale : goal.returns-in-Scale
returns-in-Scale g c =
    let a = c.args in
    let told = c.in-Scale.is in
    rw told (left_scale binary64 g.S.Size.DIM a.s a.x.now a.y.now a.z.now _ _ g.met.S.Size.sizes.row_long (rw told at c.requires) c.scale_each.ensures)

pub returns-in-Add : goal.returns-in-Add
returns-in-Add g c =
    let a = c.args in
    let told = c.in-Add.is in
    rw told (left_add binary64 g.S.Size.DIM a.s a.x.now a.y.now a.z.now _ _ g.met.S.Size.sizes.row_long (rw told at c.requires) c.add_each.ensures)

pub returns-in-Subtract : goal.returns-in-Subtract
returns-in-Subtract g c =
    let a = c.args in
    let told = c.in-Subtract.is in
    rw told (left_subtract binary64 g.S.Size.DIM a.s a.x.now a.y.now a.z.now _ _ g.met.S.Size.sizes.row_long (rw told at c.requires) c.subtract_each.ensures)

pub returns-in-AddBlock : goal.returns-in-AddBlock
returns-in-AddBlock g c =
    let a = c.args in
    let told = c.in-AddBlock.is in
    rw told (left_add_block binary64 g.S.Size.DIM a.s a.x.now a.y.now a.z.now _ _ g.met.S.Size.sizes.block_long (rw told at c.requires) c.add_each-in-AddBlock.ensures)

pub returns-in-SubtractBlock : goal.returns-in-SubtractBlock
returns-in-SubtractBlock g c =
    let a = c.args in
    let told = c.in-SubtractBlock.is in
    rw told (left_subtract_block binary64 g.S.Size.DIM a.s a.x.now a.y.now a.z.now _ _ g.met.S.Size.sizes.block_long (rw told at c.requires) c.subtract_each-in-SubtractBlock.ensures)

pub returns-in-Inverse : goal.returns-in-Inverse
returns-in-Inverse g c =
    let a = c.args in
    let told = c.in-Inverse.is in
    rw told (left_inverse binary64 g.S.Size.DIM a.s a.x.now a.y.now a.z.now _ _ (rw told at c.requires) c.inverse_each.ensures.0 c.inverse_each.ensures.1)
