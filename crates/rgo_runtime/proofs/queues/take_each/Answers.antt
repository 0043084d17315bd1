-- The room that the caller reserved is for the values of all queues that are left, so `append` succeeds (`unwrap-requires`).
use Rattle.std.proofs.Common.{◌≡◌, ◌∙◌, ◌+◌, ◌++◌, ap, arith, length, rules, vec_len}
use Rattle.std.specs.VecDeque.{deque_items}
use Rattle.rgo_runtime.specs.Parking.{pairs_of}
use Rattle.rgo_runtime.proofs.lists.Queues.{length_last, moved_more}
use Rattle.rgo_runtime.proofs.queues.take_each.Goals as goal

pub unwrap-requires : goal.unwrap-requires
unwrap-requires g c =
    let queue = c.in-Some.queue in
    let left = c.pop.new.self.entries in
    let size : length (pairs_of deque_items c.loop-queue.queues.entries) ≡ length (pairs_of deque_items left) + length queue.items =
    ap (λ es. length (pairs_of deque_items es)) c.in-Some.ensures.entries ∙ length_last deque_items left (c.in-Some.field-0-0, queue) in
    let values = ap length c.into_vec-values.ensures.items in
    c.append.ensures.succeeds (omega (arith, size, values, c.into_vec-values.result.ok.0, c.loop-queue.into.ok.1, c.loop-queue.invariant.room))

pub loop-queue-preserved : goal.loop-queue-preserved
loop-queue-preserved g c =
    let queue = c.in-Some.queue in
    let values = c.into_vec-values.result in
    let left = c.pop.new.self.entries in
    let size : length (pairs_of deque_items c.loop-queue.queues.entries) ≡ length (pairs_of deque_items left) + length queue.items =
    ap (λ es. length (pairs_of deque_items es)) c.in-Some.ensures.entries ∙ length_last deque_items left (c.in-Some.field-0-0, queue) in
    let same = ap length c.into_vec-values.ensures.items in
    let items : c.append.new.self.items ≡ c.loop-queue.into.items ++ values.items = search rules in
    let len : vec_len c.append.new.self ≡ vec_len c.loop-queue.into + vec_len values = search rules in
    record {
      moved = moved_more deque_items _ _ _ left (c.in-Some.field-0-0, queue) _ _ c.loop-queue.invariant.moved c.in-Some.ensures.entries
          (items ∙ ap (λ l. c.loop-queue.into.items ++ l) c.into_vec-values.ensures.items);
      grows = omega (arith, c.loop-queue.invariant.grows, c.append.ensures.capacity);
      room = omega (arith, size, same, len, values.ok.0, c.loop-queue.into.ok.1, c.loop-queue.invariant.room, c.append.ensures.capacity);
    }
