use Rattle.std.proofs.Common.{◌≤◌, ◌-◌, length, vec_capacity, vec_len}
use Rattle.std.specs.VecDeque.{deque_items}
use Rattle.rgo_runtime.specs.Parking.{pairs_of}
use Rattle.rgo_runtime.proofs.lists.Queues.{Moved}
use Rattle.rgo_runtime.proofs.queues.take_each.Given as goal

-- what has come, and what is still in the queues
abbrev pub invariant-loop-queue : goal.invariant-loop-queue
invariant-loop-queue g l = record {
  moved : Moved deque_items l.fn.queues.entries l.fn.into.items l.queues.entries l.into.items;
  grows : vec_capacity l.fn.into ≤ vec_capacity l.into;
  room : length (pairs_of deque_items l.queues.entries) ≤ vec_capacity l.into - vec_len l.into;
}

abbrev pub decreases-loop-queue : goal.decreases-loop-queue
decreases-loop-queue g l = length l.queues.entries
