-- `unchecked::copy_value` meets its promise: the diagonal is put whole, then the rows are copied.
-- Assumes nothing.
use Rattle.std.proofs.Common.{◌∙◌}
use Rattle.copy_rows.proofs.JoinLaws.{put_whole}
use Rattle.copy_rows.proofs.unchecked.copy_value.Goals as goal

pub returns : goal.returns
returns g c =
    (c.put.ensures ∙ put_whole c.args.a_diagonal.now c.args.diagonal.now c.requires.1, c.copy_entries.ensures)
