use Rattle.crossbeam_deque.specs.Handles.{worker_port, worker_view}
use Rattle.rgo_sched.proofs.AccountLemmas.{takes}
use Rattle.rgo_sched.proofs.deques.turn_own.Goals as goal

pub pop_as-requires-clause-fifo : goal.pop_as-requires-clause-fifo
pop_as-requires-clause-fifo g c = λ _. takes (worker_port c.args.own.now) (worker_view c.args.own.now) c.requires.part
