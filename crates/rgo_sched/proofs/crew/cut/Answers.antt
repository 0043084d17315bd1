use Rattle.crossbeam_deque.specs.Handles.{worker_port, worker_view}
use Rattle.rgo_sched.proofs.AccountLemmas.{forks}
use Rattle.rgo_sched.proofs.crew.cut.Goals as goal

pub another-requires : goal.another-requires
another-requires g c = forks (worker_port c.args.own.now) (worker_view c.args.own.now) c.requires
