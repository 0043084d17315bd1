use Rattle.std.proofs.Common.{◌≡◌, ◌≤◌, ◌+◌, ◌-◌, ◌++◌, length, vec_capacity, vec_len}
use Rattle.rgo_runtime.proofs.queues.move_oldest.Given as goal

-- what has come and what is left are all, in their order
abbrev pub invariant-loop-left : goal.invariant-loop-left
invariant-loop-left g l = record {
  whole : l.into.items ++ l.queue.items ≡ l.fn.into.items ++ l.fn.queue.items;
  come : length l.into.items + l.left ≡ length l.fn.into.items + l.fn.many;
  some : l.left ≤ length l.queue.items;
  room : l.left ≤ vec_capacity l.into - vec_len l.into;
}

abbrev pub decreases-loop-left : goal.decreases-loop-left
decreases-loop-left g l = l.left
