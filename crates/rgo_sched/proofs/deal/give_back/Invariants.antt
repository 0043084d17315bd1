use Rattle.std.proofs.Common.{◌≡◌, ℕ, ◌<◌, ◌≤◌, length, take, vec_len, vec_capacity}
use Rattle.rgo_sched.specs.Positions.{Filled}
use Rattle.rgo_sched.specs.Rounds.{RoundOf}
use Rattle.rgo_sched.proofs.deal.give_back.Given as goal

abbrev pub invariant-loop-at : goal.invariant-loop-at
invariant-loop-at g l = record {
  size : length l.results ≡ length g.B.Before.tasks;
  rest : (k : ℕ) → l.at ≤ k → k < length g.B.Before.tasks → Filled l.results k;
  room : vec_capacity l.tasks ≡ vec_capacity l.fn.tasks;
  len : vec_len l.tasks ≡ l.at;
  so_far : RoundOf g.T.Task.goes (take l.at g.B.Before.tasks) l.tasks.items l.went;
}
