use Rattle.std.proofs.Common.{ℕ, nat_lt, rules}
use Rattle.std.proofs.lemmas.List.Sorted.{IsPartitionPoint-from_clause}
use Rattle.slab.specs.Slab.{get}
use Rattle.call_tree.specs.Kept.{number_in}
use Rattle.call_tree.proofs.Rising.{less_first}
use Rattle.call_tree.proofs.records.count_below.Goals as goal

pub returns : goal.returns
returns c =
    IsPartitionPoint-from_clause (λ (k : ℕ). nat_lt (number_in (get c.args.slab.now k)) c.args.c) _ _ c.partition_point.ensures.partitioned
    (λ i j d l h t. less_first _ _ c.args.c (c.requires i j d l h) t) (λ a r q k. search rules)
