-- `unchecked::first_from` meets its promise: a row that rises is parted by what is below the column.
-- Assumes nothing.
use lib.Dec.{ltb}
use borrow.Author.Rules.{rules}
use Rattle.std.proofs.lemmas.List.Sorted.{IsPartitionPoint-from_clause}
use Rattle.rows.proofs.HalfLaws.{parted}
use Rattle.rows.proofs.unchecked.first_from.Goals as goal

pub returns-clause-parted : goal.returns-clause-parted
returns-clause-parted c =
    let a = c.args in
    IsPartitionPoint-from_clause (λ y. ltb y a.column) a.row.now _ c.partition_point.ensures.partitioned (parted a.row.now a.column c.requires) (λ a r q k. search rules)
