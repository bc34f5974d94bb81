-- `assemble_words` meets its promise: on each way it is the call of `elements`.
-- Assumes nothing.
use lib.Ieee.{binary64}
use Rattle.assembly_bytes.proofs.WayLaws.{by_merge, by_csrdia}
use Rattle.assembly_bytes.proofs.unchecked.assemble_words.Goals as goal

pub returns-in-Merge : goal.returns-in-Merge
returns-in-Merge c =
    let a = c.args in
    by_merge binary64 a.dim a.rows.now a.cols.now a.element.now a.offsets.now a.columns.now (a.diagonal.now, a.values.now) _ _ a.call c.requires.1 c.in-Merge.is c.requires.0 c.merge.ensures

pub returns-in-Csrdia : goal.returns-in-Csrdia
returns-in-Csrdia c =
    let a = c.args in
    by_csrdia binary64 a.dim a.rows.now a.cols.now a.element.now a.offsets.now a.columns.now (a.diagonal.now, a.values.now) _ _ a.call c.requires.1 c.in-Csrdia.is c.csrdia.ensures
