use Rattle.std.proofs.Common.{◌≡◌, length, vec_len}
use Rattle.rgo_sched.specs.Crew.{Every, HasAllParts}
use Rattle.rgo_sched.proofs.CrewLemmas.{FilledOrLeft}
use Rattle.rgo_sched.proofs.gather.gather_all.Given as goal

abbrev pub invariant-loop-worker : goal.invariant-loop-worker
invariant-loop-worker g l = record {
  size : length l.results ≡ length g.B.Before.tasks;
  all : Every HasAllParts l.crew.items;
  owed : FilledOrLeft (length g.B.Before.tasks) l.results l.crew.items;
}

abbrev pub decreases-loop-worker : goal.decreases-loop-worker
decreases-loop-worker g l = vec_len l.crew
