use Rattle.std.proofs.Common.{arith, rules, of_calls, ltb, get_or}
use Rattle.std.proofs.lemmas.Fn.{always_returns_same}
use Rattle.std.proofs.lemmas.Bool.{ltb-true}
use Rattle.std.proofs.lemmas.List.Sorted.{IsNonDecreasingBy-from_default, IsPartitionedBy-ltb}
use Rattle.rgo_flow.proofs.Choices.{next_at, next_none, not_below}
use Rattle.rgo_flow.proofs.uses.next_from.Goals as goal

pub returns-then-at-points : goal.returns-then-at-points
returns-then-at-points c =
    let point = c.partition_point-at.ensures.partitioned (λ y. ltb y c.args.from)
    (always_returns_same _ _ _ (λ a r f k. search (rules, of_calls)))
    (IsPartitionedBy-ltb (λ y. y) c.args.points.now c.args.from
    (IsNonDecreasingBy-from_default (λ y. y) c.args.points.now 0 c.requires.ascending)) in
    next_at c.args.points.now c.args.from c.partition_point-at.result c.requires.ascending (omega arith)
    (λ k l. ltb-true (get_or c.args.points.now k 0) c.args.from (point.0 k 0 (omega arith) l))
    (not_below _ _ (point.1 c.partition_point-at.result 0 (omega arith) (omega arith)))

pub returns-else-at-points : goal.returns-else-at-points
returns-else-at-points c =
    let point = c.partition_point-at.ensures.partitioned (λ y. ltb y c.args.from)
    (always_returns_same _ _ _ (λ a r f k. search (rules, of_calls)))
    (IsPartitionedBy-ltb (λ y. y) c.args.points.now c.args.from
    (IsNonDecreasingBy-from_default (λ y. y) c.args.points.now 0 c.requires.ascending)) in
    next_none c.args.points.now c.args.from
    (λ k l. ltb-true (get_or c.args.points.now k 0) c.args.from (point.0 k 0 (omega arith) (omega arith)))
