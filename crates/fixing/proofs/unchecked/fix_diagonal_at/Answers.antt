-- `unchecked::fix_diagonal_at` meets its promise: where nothing is fixed all stays, and else the block is read, made anew and put back.
-- Assumes nothing.
use Rattle.std.proofs.Common.{ℕ, Float, sym, ◌∙◌, ◌/◌, ◌%◌, rules}
use Rattle.std.specs.Float.{binary64}
use Rattle.fixing.specs.Fixing.{is_fixed, diagonal_value}
use Rattle.fixing.proofs.BlockLaws.{anew}
use Rattle.fixing.proofs.FixingLaws.{diagonal_stays, joined_diagonal}
use Rattle.fixing.proofs.unchecked.fix_diagonal_at.Goals as goal

pub returns-then-not-is_any_fixed : goal.returns-then-not-is_any_fixed
returns-then-not-is_any_fixed g c =
    let a = c.args in
    let n = g.S.Size.DIM in
    diagonal_stays binary64 n a.val_dia (is_fixed n a.flags.now a.i) a.i a.diagonal.now c.requires.0 (sym c.is_any_fixed.ensures ∙ c.if-not-is_any_fixed.true)

pub returns : goal.returns
returns g c =
    let a = c.args in
    let n = g.S.Size.DIM in
    let fixed = is_fixed n a.flags.now a.i in
    let h : ℕ → ℕ → Float → Float = diagonal_value binary64 a.val_dia fixed in
    let made = c.map-new.ensures (λ k x. h (k % n) (k / n) x) (λ k x y below gave. search rules) in
    joined_diagonal binary64 n a.val_dia fixed a.i a.diagonal.now _ _ _ c.block_at.ensures
    (rw g.met.S.Size.sizes.block_long at made ∙ anew n h _) c.put_block.ensures
