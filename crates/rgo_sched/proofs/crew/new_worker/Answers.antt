use Rattle.std.proofs.Common.{rules}
use Rattle.rgo_sched.proofs.AccountLemmas.{begins}
use Rattle.rgo_sched.proofs.DealLemmas.{slots_for_all}
use Rattle.rgo_sched.proofs.crew.new_worker.Goals as goal

pub fifo_as-requires : goal.fifo_as-requires
fifo_as-requires g c = begins

pub returns : goal.returns
returns g c = let deque = c.in_ok-fifo_as.ensures in record {
  fifo = deque.1;
  alone = deque.4;
  slots = (deque.3, slots_for_all c.args.tasks c.args.workers c.div_ceil.result _ c.requires c.div_ceil.ensures deque.0.1);
  no_permit = search rules;
  room = search rules;
  nothing_done = search rules;
}
