-- The two ends of a deque of tasks, as contracts see them: a task in a deque is a number there, its position.
use Rattle.std.specs.Prelude.{ℕ}
use Rattle.std.specs.declared.alloc.Global.{Global}
use Rattle.crossbeam_deque.specs.declared.handles.Stealer.{Stealer}
use Rattle.crossbeam_deque.specs.declared.handles.Worker.{Worker}
use Rattle.rgo_sched.specs.declared.accounts.Account.{Account}
use Rattle.rgo_sched.specs.declared.deques.Balance.{Balance}

-- the owner's end
abbrev pub TaskDeque : Type 0
TaskDeque = Worker ℕ Global Account Balance

-- the end of all others
abbrev pub TaskStealer : Type 0
TaskStealer = Stealer ℕ Global Account Balance
