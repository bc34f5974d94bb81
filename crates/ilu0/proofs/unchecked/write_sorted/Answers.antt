-- `unchecked::write_sorted` meets its promise: the pattern is copied, and zeros stand behind it while its rows are sorted.
-- Assumes nothing.
use mathlib.Core.Path.{refl}
use Rattle.ilu0.proofs.WholeLaws.{copied, in_order, written}
use borrow.Author.Rules.{rules}
use Rattle.ilu0.proofs.unchecked.write_sorted.Goals as goal

pub sort_rows-requires : goal.sort_rows-requires
sort_rows-requires c = in_order c.requires _ (search rules) (search rules)

pub returns : goal.returns
returns c =
    let a = c.args in
    written c.requires _ _ _ _ c.copy.ensures
    (copied a.entries.now a.columns.now _ _ _ _ c.requires.fits c.copy-2.ensures refl c.clear.ensures refl)
    c.sort_rows.ensures
