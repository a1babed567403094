-- `characters::count_upto` meets its contract. Assumes nothing.
use Rattle.std.proofs.Common.{leb, rules}
use Rattle.std.proofs.lemmas.List.Sorted.{IsPartitionPoint-from_clause}
use Rattle.characters.proofs.Tables.{partitioned, split}
use Rattle.characters.proofs.count_upto.Goals as goal

pub returns : goal.returns
returns c =
    split _ _ _ c.partition_point.ensures.bound
    (IsPartitionPoint-from_clause (λ y. leb y c.args.x) _ _ c.partition_point.ensures.partitioned (partitioned _ _ c.requires) (λ a r f' k. search rules))
