use Rattle.std.proofs.Common.{nat_lt, rules, ◌∙◌}
use Rattle.std.proofs.lemmas.List.Sorted.{IsPartitionPoint-from_clause}
use Rattle.st_chain.proofs.ForkPlaces.{parted, found_at, got}
use Rattle.st_chain.proofs.forks.fork_from.Goals as goal

pub returns : goal.returns
returns c =
    let point = IsPartitionPoint-from_clause (λ fork. nat_lt fork.at c.args.first) _ _ c.partition_point.ensures.partitioned (parted 0 c.args.forks.now c.args.first c.requires) (λ a r q k. search rules) in
    let there = got c.args.forks.now c.partition_point.result c.get.result c.get.ensures.lookup.0 c.get.ensures.lookup.1 in
    c.copied.ensures ∙ there ∙ found_at c.args.forks.now c.args.first c.partition_point.result c.partition_point.ensures.bound point
