use Rattle.crossbeam_deque.specs.Handles.{view}
use Rattle.rgo_sched.proofs.AccountLemmas.{takes}
use Rattle.rgo_sched.proofs.deques.turn_stolen.Goals as goal

pub steal_as-requires-clause-takes : goal.steal_as-requires-clause-takes
steal_as-requires-clause-takes g c = takes c.args.permit.now.pass.id (view c.args.permit.now.pass) c.requires.part
