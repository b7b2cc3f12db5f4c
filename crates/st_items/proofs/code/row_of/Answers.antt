use Rattle.std.proofs.Common.{leb, rules, ◌∙◌}
use Rattle.std.proofs.lemmas.List.Sorted.{IsPartitionPoint-from_clause}
use Rattle.st_items.proofs.Rows.{parted, found_at, got}
use Rattle.st_items.proofs.code.row_of.Goals as goal

pub returns : goal.returns
returns c =
    let point = IsPartitionPoint-from_clause (λ row. leb row.code_to c.args.pc) _ _ c.partition_point.ensures.partitioned (parted 0 c.args.rows.now c.args.pc c.requires) (λ a r q k. search rules) in
    let there = got c.args.rows.now c.partition_point.result c.get.result c.get.ensures.lookup.0 c.get.ensures.lookup.1 in
    c.copied.ensures ∙ there ∙ found_at c.args.rows.now c.args.pc c.partition_point.result c.partition_point.ensures.bound point
