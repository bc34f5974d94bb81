-- `unchecked::write_words` meets its promise: on each way it is the call of its crate.
-- Assumes nothing.
use Rattle.fill_way.proofs.CallLaws.{by_full, by_ilu0, by_iluk}
use Rattle.fill_way.proofs.unchecked.write_words.Goals as goal

pub returns-in-Full : goal.returns-in-Full
returns-in-Full c =
    let a = c.args in
    by_full a.k a.starts.now a.entries.now a.offsets.now a.columns.now a.splits.now _ _ _ _ a.call c.in-Full.is c.initialize_full.ensures

pub returns-in-Ilu0 : goal.returns-in-Ilu0
returns-in-Ilu0 c =
    let a = c.args in
    by_ilu0 a.k a.starts.now a.entries.now a.offsets.now a.columns.now a.splits.now _ _ _ _ a.call c.in-Ilu0.is c.initialize_ilu0.ensures

pub returns-in-Iluk : goal.returns-in-Iluk
returns-in-Iluk c =
    let a = c.args in
    let fits = c.requires in
    by_iluk a.k a.starts.now a.entries.now a.offsets.now a.columns.now a.splits.now a.levels.now a.row.now _ _ _ _ _ _ a.call c.in-Iluk.is fits.0 fits.1
    c.initialize_iluk.ensures
