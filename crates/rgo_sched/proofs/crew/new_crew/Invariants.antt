use Rattle.std.proofs.Common.{◌≡◌, ℕ, vec_len, vec_capacity}
use mathlib.Core.Option.{some}
use lib.ListN.{get_elem?}
use Rattle.crossbeam_deque.specs.Handles.{worker_deque, stealer_deque}
use Rattle.rgo_sched.specs.declared.crew.Worker.{Worker}
use Rattle.rgo_sched.specs.Crew.{Every, New}
use Rattle.rgo_sched.specs.Deques.{TaskStealer}
use Rattle.rgo_sched.proofs.crew.new_crew.Given as goal

abbrev pub invariant-loop : goal.invariant-loop
invariant-loop g l = record {
  room : (vec_capacity l.crew ≡ l.fn.workers) × (vec_capacity l.stealers ≡ l.fn.workers);
  len : (vec_len l.crew ≡ l.counter) × (vec_len l.stealers ≡ l.counter);
  new : Every (New l.fn.tasks l.fn.workers) l.crew.items;
  table : (k : ℕ) (s : TaskStealer) (m : Worker _ _) → get_elem? l.stealers.items k ≡ some s → get_elem? l.crew.items k ≡ some m → worker_deque m.own ≡ stealer_deque s;
}
