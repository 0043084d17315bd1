use Rattle.std.proofs.Common.{[], ◌∷◌}
use Rattle.crossbeam_deque.specs.Handles.{worker_port, worker_view}
use Rattle.rgo_sched.proofs.AccountLemmas.{gives}
use Rattle.rgo_sched.proofs.deal.give.Goals as goal

pub push_as-requires-clause-pushes : goal.push_as-requires-clause-pushes
push_as-requires-clause-pushes g c = gives (worker_port c.args.own.now) (worker_view c.args.own.now) (c.args.queued ∷ []) c.requires.part
