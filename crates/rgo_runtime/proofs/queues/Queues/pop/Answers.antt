-- An empty queue has no pairs, so to skip it changes neither the view nor `count`, which is the number of pairs.
use Rattle.std.proofs.Common.{◌≡◌, ◌∙◌, ◌+◌, ◌++◌, ap, arith, length, sym}
use Rattle.std.proofs.lemmas.Bool.Decides.{nat_tests}
use Rattle.std.specs.VecDeque.{deque_items}
use Rattle.rgo_runtime.specs.Parking.{pairs_of, parked_values}
use Rattle.rgo_runtime.proofs.lists.Queues.{length_last, none_last, nothing_in, values_last}
use Rattle.rgo_runtime.proofs.queues.Queues.pop.Goals as goal

pub loop-queue-init : goal.loop-queue-init
loop-queue-init g c = record { same = c.self.view_is; count = c.self.invariant ∙ ap length c.self.view_is }

pub loop-queue-preserved : goal.loop-queue-preserved
loop-queue-preserved g c =
    let queue = c.in-Some.queue in
    let left = c.pop.new.self.entries in
    let size : length queue.items ≡ 0 = grind (arith, nat_tests, c.is_empty.ensures, c.if-not-is_empty.false, queue.ok.0) in
    record {
      same = sym (none_last deque_items left (c.in-Some.field-0-0, queue) (nothing_in queue.items size))
          ∙ (ap (pairs_of deque_items) (sym c.in-Some.ensures.entries) ∙ c.loop-queue.invariant.same);
      count = c.loop-queue.invariant.count;
    }

pub overflow_sub-self : goal.overflow_sub-self
overflow_sub-self g c =
    let queue = c.in-Some.queue in
    let left = c.pop.new.self.entries in
    let size : length (pairs_of deque_items c.loop-queue.self-inside.queues.entries) ≡ length (pairs_of deque_items left) + length queue.items =
    ap (λ es. length (pairs_of deque_items es)) c.in-Some.ensures.entries ∙ length_last deque_items left (c.in-Some.field-0-0, queue) in
    let values = ap length c.into_vec-values.ensures.items in
    omega (arith, size, values, c.into_vec-values.result.ok.0, c.len.ensures, c.loop-queue.invariant.count, ap length c.loop-queue.invariant.same)

pub invariant_of-self : goal.invariant_of-self
invariant_of-self g c =
    let queue = c.in-Some.queue in
    let left = c.pop.new.self.entries in
    let size : length (pairs_of deque_items c.loop-queue.self-inside.queues.entries) ≡ length (pairs_of deque_items left) + length queue.items =
    ap (λ es. length (pairs_of deque_items es)) c.in-Some.ensures.entries ∙ length_last deque_items left (c.in-Some.field-0-0, queue) in
    let values = ap length c.into_vec-values.ensures.items in
    omega (arith, size, values, c.into_vec-values.result.ok.0, c.len.ensures, c.loop-queue.invariant.count, ap length c.loop-queue.invariant.same)

pub returns-then-not-is_empty-clause-rest : goal.returns-then-not-is_empty-clause-rest
returns-then-not-is_empty-clause-rest g c =
    let left = c.pop.new.self.entries in
    ap parked_values (sym c.loop-queue.invariant.same)
    ∙ (ap (λ es. parked_values (pairs_of deque_items es)) c.in-Some.ensures.entries
    ∙ (values_last deque_items left (c.in-Some.field-0-0, c.in-Some.queue)
    ∙ ap (λ l. parked_values (pairs_of deque_items left) ++ l) (sym c.into_vec-values.ensures.items)))
