use Rattle.std.proofs.Common.{◌≡◌}
use Rattle.rgo_runtime.specs.Runs.{CrewContinues}
use Rattle.rgo_runtime.proofs.runs.schedule.Given as goal

-- all is well so far
abbrev pub invariant-loop : goal.invariant-loop
invariant-loop g l = record {
  on : CrewContinues l.fn.crew (g.K.Sink.contents l.fn.out) l.crew (g.K.Sink.contents l.out);
  run : l.crew.run ≡ l.fn.crew.run;
  held : g.K.Sink.faults l.out ≡ g.K.Sink.faults l.fn.out;
}
