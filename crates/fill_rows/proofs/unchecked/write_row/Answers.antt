-- `unchecked::write_row` meets its promise: after each turn the marks below j are written.
-- Assumes nothing.
use mathlib.Core.Path.{◌∙◌}
use native.Mathlib.Omega.{arith}
use lib.ListN.{length}
use Rattle.fill.proofs.ScanLaws.{columns_skip, levels_skip, count_hit, room_here, write_column, write_level}
use borrow.Author.Rules.{rules}
use Rattle.fill_rows.proofs.unchecked.write_row.Goals.{then-word-ne0, else-word-ne0}
use Rattle.fill_rows.proofs.unchecked.write_row.Goals as goal

pub loop-j-preserved : goal.loop-j-preserved
loop-j-preserved c =
    let l = c.loop-j in
    let a = c.args in
    let r = a.row.now in
    elim c.if-word-ne0.branch [
      | then-word-ne0 w ↦
          let h = w.if-word-ne0.true in
          let b = room_here r l.j (length a.columns.now) h (search rules) (search rules) in
          let b' = room_here r l.j (length a.levels.now) h (search rules) (search rules) in (
            omega (arith, w.at-is, count_hit r l.j h),
            w.columns-is ∙ write_column r l.j l.at _ _ h l.invariant.0 (omega (arith, b)) l.invariant.1,
            w.levels-is ∙ write_level r l.j l.at _ _ h l.invariant.0 (omega (arith, b')) l.invariant.2,
          )
      | else-word-ne0 w ↦
          let s = columns_skip r l.j w.if-word-ne0.false in
          (w.at-is ∙ rw s l.invariant.0, w.columns-is ∙ rw s l.invariant.1, w.levels-is ∙ rw (levels_skip r l.j w.if-word-ne0.false) l.invariant.2)
    ]
