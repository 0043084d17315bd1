use Rattle.std.proofs.Common.{◌≡◌, length}
use Rattle.std.specs.VecDeque.{deque_items}
use Rattle.rgo_runtime.specs.Parking.{pairs_of}
use Rattle.rgo_runtime.proofs.queues.Queues.pop.Given as goal

-- the queues that are gone were empty
abbrev pub invariant-loop-queue : goal.invariant-loop-queue
invariant-loop-queue g l = record {
  same : pairs_of deque_items l.self-inside.queues.entries ≡ l.fn.self;
  count : l.self-inside.count ≡ length l.fn.self;
}

abbrev pub decreases-loop-queue : goal.decreases-loop-queue
decreases-loop-queue g l = length l.self-inside.queues.entries
