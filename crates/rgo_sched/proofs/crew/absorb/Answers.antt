use Rattle.crossbeam_deque.specs.Handles.{view, worker_port, worker_view}
use Rattle.rgo_sched.proofs.AccountLemmas.{merges}
use Rattle.rgo_sched.proofs.crew.absorb.Goals as goal

pub absorb-requires-clause-rule : goal.absorb-requires-clause-rule
absorb-requires-clause-rule g c = merges (worker_port c.args.own.now) (worker_view c.args.own.now) c.args.pass.id (view c.args.pass) c.requires.part
