use Rattle.std.proofs.Common.{◌+◌, arith, ap, sym, ◌∙◌}
use Rattle.rgo_sched.proofs.CrewLemmas.{crew_new, every_push, table_push}
use Rattle.rgo_sched.proofs.crew.new_crew.Goals as goal

pub loop-preserved : goal.loop-preserved
loop-preserved g c = record {
  room = (c.push_reserved.ensures.capacity ∙ c.loop.invariant.room.0, c.push_reserved-in-loop.ensures.capacity ∙ c.loop.invariant.room.1);
  len = (c.push_reserved.ensures.len ∙ ap (λ n. n + 1) c.loop.invariant.len.0, c.push_reserved-in-loop.ensures.len ∙ ap (λ n. n + 1) c.loop.invariant.len.1);
  new = every_push _ _ _ _ c.push_reserved.ensures.items c.in_ok-worker.ensures c.loop.invariant.new;
  table = table_push _ _ _ _ _ _ c.push_reserved.ensures.items c.push_reserved-in-loop.ensures.items (omega (arith, c.loop.invariant.len.0, c.loop.invariant.len.1, c.loop.crew.ok, c.loop.stealers.ok)) (sym c.in_ok-stealer.ensures.0) c.loop.invariant.table;
}

pub returns-clause-crew : goal.returns-clause-crew
returns-clause-crew g c = crew_new _ _ c.args.tasks c.args.workers (omega (arith, c.loop.invariant.len.0, c.loop.invariant.len.1, c.loop.crew.ok, c.loop.stealers.ok)) (omega (arith, c.loop.invariant.len.1, c.loop.stealers.ok, c.loop.auto.counter-end, c.requires.1)) c.loop.invariant.table c.loop.invariant.new
