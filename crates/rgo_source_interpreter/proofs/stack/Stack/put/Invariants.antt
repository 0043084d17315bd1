use Rattle.std.proofs.Common.{◌≡◌, ◌++◌, ◌≤◌, ◌+◌, drop, take, length, reverse, vec_len, vec_capacity}
use Rattle.rgo_source_interpreter.proofs.stack.Stack.put.Given as goal

abbrev pub invariant-loop-left : goal.invariant-loop-left
invariant-loop-left g l = record {
  so_far : take l.left l.items ++ reverse l.self-inside.items.items ≡ l.items ++ drop l.count l.fn.self;
  room : vec_len l.self-inside.items + l.left ≤ vec_capacity l.self-inside.items;
  within : l.left ≤ length l.items;
}

abbrev pub decreases-loop-left : goal.decreases-loop-left
decreases-loop-left g l = l.left
