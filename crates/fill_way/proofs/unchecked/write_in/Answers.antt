-- `unchecked::write_in` meets its promise: the call on what was read, put as bytes if it wrote.
-- Assumes nothing.
use native.Mathlib.Omega.{arith}
use Rattle.fill_way.proofs.WayLaws.{wrote_bytes}
use Rattle.fill_way.proofs.unchecked.write_in.Goals as goal

pub put_pattern-requires : goal.put_pattern-requires
put_pattern-requires c =
    let fits = c.requires.starts_len in
    let kept = c.write_words-answer.auto in
    (omega (arith, fits.2, kept.offsets), omega (arith, fits.3, kept.columns), omega (arith, fits.4, kept.splits))

pub returns : goal.returns
returns c =
    let a = c.args in
    let fits = c.requires.starts_len in
    let read = c.decode_pattern.ensures in
    let put = c.put_pattern.ensures in
    wrote_bytes a.call a.k a.starts.now a.entries.now _ _ a.offs.now a.cols.now a.cuts.now _ _ _ a.offsets.now a.columns.now a.splits.now _ _ _ _ _
    read.0 read.1 fits.2 fits.3 fits.4 c.number.ensures c.write_words-answer.ensures put.0 put.1 put.2
