-- `unchecked::fix_entry` meets its promise: the block is read, made anew from the flags of its row and of its column, and put back.
-- Assumes nothing.
use Rattle.std.proofs.Common.{ℕ, Float, ◌∙◌, ◌/◌, ◌%◌, rules}
use Rattle.std.specs.Float.{binary64}
use Rattle.fixing.specs.Fixing.{is_fixed, entry_value}
use Rattle.fixing.proofs.BlockLaws.{anew}
use Rattle.fixing.proofs.FixingLaws.{joined_entry}
use Rattle.fixing.proofs.unchecked.fix_entry.Goals as goal

pub returns : goal.returns
returns g c =
    let a = c.args in
    let n = g.S.Size.DIM in
    let h : ℕ → ℕ → Float → Float = entry_value binary64 (is_fixed n a.flags.now a.i) (is_fixed n a.flags.now a.j) in
    let made = c.map-new.ensures (λ k x. h (k % n) (k / n) x) (λ k x y below gave. search rules) in
    joined_entry binary64 n (is_fixed n a.flags.now a.i) (is_fixed n a.flags.now a.j) a.e a.values.now _ _ _ c.block_at.ensures
    (rw g.met.S.Size.sizes.block_long at made ∙ anew n h _) c.put_block.ensures
