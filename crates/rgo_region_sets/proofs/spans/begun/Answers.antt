use Rattle.std.proofs.Common.{rules, of_calls}
use Rattle.std.proofs.lemmas.List.Sorted.{IsPartitionPoint-from_clause}
use Rattle.rgo_region_sets.proofs.Apart.{has_begun, begun_partitioned, begun_found}
use Rattle.rgo_region_sets.proofs.spans.begun.Goals as goal

pub returns : goal.returns
returns c =
    let spans = c.args.spans.now in
    let point = IsPartitionPoint-from_clause (has_begun c.args.name c.args.at) spans c.partition_point.result
    c.partition_point.ensures.partitioned (begun_partitioned spans c.args.name c.args.at c.requires.apart)
    (λ a r f k. search (rules, of_calls)) in
    begun_found spans c.args.name c.args.at c.partition_point.result c.partition_point.ensures.bound point
