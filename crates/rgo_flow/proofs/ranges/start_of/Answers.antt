use Rattle.std.proofs.Common.{arith, rules, of_calls, ltb, get_or, ◌<◌, ◌-◌}
use Rattle.std.proofs.lemmas.Fn.{always_returns_same}
use Rattle.std.proofs.lemmas.Bool.{ltb-true}
use Rattle.std.proofs.lemmas.List.Sorted.{IsNonDecreasingBy-from_default, IsPartitionedBy-ltb}
use Rattle.rgo_flow.proofs.Choices.{not_below}
use Rattle.rgo_flow.proofs.Covering.{start_first, start_after}
use Rattle.rgo_flow.proofs.ranges.start_of.Goals as goal

pub returns-then-count-eq0 : goal.returns-then-count-eq0
returns-then-count-eq0 c =
    let point = c.partition_point-count.ensures.partitioned (λ y. ltb y c.args.end)
    (always_returns_same _ _ _ (λ a r f k. search (rules, of_calls)))
    (IsPartitionedBy-ltb (λ y. y) c.args.writers.now c.args.end
    (IsNonDecreasingBy-from_default (λ y. y) c.args.writers.now 0 c.requires.ascending)) in
    start_first c.args.writers.now c.args.first c.args.end
    (λ k l. not_below _ _ (point.1 k 0 (omega (arith, c.if-count-eq0.true)) l))

pub overflow_add-writers : goal.overflow_add-writers
overflow_add-writers c =
    let point = c.partition_point-count.ensures.partitioned (λ y. ltb y c.args.end)
    (always_returns_same _ _ _ (λ a r f k. search (rules, of_calls)))
    (IsPartitionedBy-ltb (λ y. y) c.args.writers.now c.args.end
    (IsNonDecreasingBy-from_default (λ y. y) c.args.writers.now 0 c.requires.ascending)) in
    let n = c.partition_point-count.result in
    let below : get_or c.args.writers.now (n - 1) 0 < c.args.end =
    ltb-true (get_or c.args.writers.now (n - 1) 0) c.args.end
    (point.0 (n - 1) 0 (omega arith) (omega (arith, c.if-count-eq0.false))) in
    omega (arith, below, c.ranges.end.fits)

pub returns : goal.returns
returns c =
    let point = c.partition_point-count.ensures.partitioned (λ y. ltb y c.args.end)
    (always_returns_same _ _ _ (λ a r f k. search (rules, of_calls)))
    (IsPartitionedBy-ltb (λ y. y) c.args.writers.now c.args.end
    (IsNonDecreasingBy-from_default (λ y. y) c.args.writers.now 0 c.requires.ascending)) in
    let n = c.partition_point-count.result in
    start_after c.args.writers.now c.args.first c.args.end n c.max.result c.requires.ascending
    (omega (arith, c.if-count-eq0.false)) c.partition_point-count.ensures.bound
    (λ k l. ltb-true (get_or c.args.writers.now k 0) c.args.end (point.0 k 0 (omega arith) l))
    (λ k a b. not_below _ _ (point.1 k 0 a b)) c.max.ensures
