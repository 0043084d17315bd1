use Rattle.std.proofs.Common.{rules, of_calls, ltb, leb}
use Rattle.std.proofs.lemmas.List.Sorted.{IsNonDecreasingBy-from_default, IsPartitionedBy-ltb, IsPartitionedBy-leb, IsPartitionPoint-from_clause}
use Rattle.rgo_region_sets.proofs.Tables.{bounds_found}
use Rattle.rgo_region_sets.proofs.dying.branches_in.Goals as goal

pub returns : goal.returns
returns c =
    let points = c.args.points.now in
    let span = c.args.span in
    let rise = IsNonDecreasingBy-from_default (λ p. p) points 0 c.requires.points in
    let first = IsPartitionPoint-from_clause (λ p. ltb p span.from) points c.partition_point-first.result
    c.partition_point-first.ensures.partitioned (IsPartitionedBy-ltb (λ p. p) points span.from rise)
    (λ a r f k. search (rules, of_calls)) in
    let end = IsPartitionPoint-from_clause (λ p. leb p span.to) points c.partition_point-end.result
    c.partition_point-end.ensures.partitioned (IsPartitionedBy-leb (λ p. p) points span.to rise)
    (λ a r f k. search (rules, of_calls)) in
    bounds_found points span c.partition_point-first.result c.partition_point-end.result first end
    c.partition_point-end.ensures.bound
