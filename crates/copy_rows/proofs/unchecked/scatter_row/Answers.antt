-- `unchecked::scatter_row` meets its promise: the marks are whole places, and what is put there is the row.
-- Assumes nothing.
use mathlib.Core.Path.{◌≡◌, ◌∙◌}
use native.Mathlib.Omega.{arith}
use lib.ListN.{length}
use lib.Ieee.{binary64}
use Rattle.places.proofs.PlaceLaws.{small}
use Rattle.copy_rows.proofs.ScatterLaws.{guided, guided_same, scattered}
use Rattle.copy_rows.proofs.unchecked.scatter_row.Goals as goal

pub mark_row-requires : goal.mark_row-requires
mark_row-requires c = (c.requires.0, c.requires.2)

pub put_all-requires : goal.put_all-requires
put_all-requires c =
    -- there is a value to each column
    let room : length c.args.out.now ≡ length c.args.row.now = omega (arith, c.requires.1.room) in
    let a = c.args in (
      guided_same (c.clear_unless.ensures.0 ∙ room)
          (guided a.row.now a.from.now _ c.requires.2 c.requires.1.marks.single (small a.from.now c.requires.1.marks.below) c.requires.3 c.mark_row.ensures c.requires.4),
      omega (arith, c.requires.1.stored),
    )

pub returns : goal.returns
returns c =
    -- there is a value to each column
    let room : length c.args.out.now ≡ length c.args.row.now = omega (arith, c.requires.1.room) in
    let a = c.args in (
      c.put_all.ensures
          ∙ scattered a.row.now a.from.now _ c.requires.2 c.requires.1.marks.single (small a.from.now c.requires.1.marks.below) c.requires.3 c.mark_row.ensures c.requires.4
          binary64 a.first a.values.now _ (c.clear_unless.ensures.0 ∙ room) (λ differ. c.clear_unless.ensures.1 (λ e. differ (omega (arith, e, room)))) c.requires.1.marks.few,
      c.mark_row.ensures.long,
    )
