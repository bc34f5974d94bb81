-- `unchecked::copy_entries` meets its promise: A's values as they are, or row by row.
-- Assumes nothing.
use mathlib.Core.Path.{◌∙◌}
use native.Mathlib.Omega.{arith}
use lib.Ieee.{binary64}
use Rattle.copy_rows.proofs.JoinLaws.{put_whole}
use Rattle.copy_rows.proofs.AllLaws.{same_long, same_copied}
use Rattle.copy_rows.proofs.unchecked.copy_entries.Goals as goal

pub put-requires : goal.put-requires
put-requires g c =
    let same = c.is_same_pattern.ensures c.if-is_same_pattern.true in
    omega (arith, same_long c.requires same.1)

pub returns-then-is_same_pattern : goal.returns-then-is_same_pattern
returns-then-is_same_pattern g c =
    let a = c.args in
    let same = c.is_same_pattern.ensures c.if-is_same_pattern.true in
    c.put.ensures ∙ put_whole a.a_values.now a.values.now (same_long c.requires same.1) ∙ same_copied binary64 a.a_values.now c.requires same.0 same.1
