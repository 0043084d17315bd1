use Rattle.std.proofs.Common.{◌≡◌}
use Rattle.rgo_core.specs.Rule.declared.accesses.Kind.TheVariants as kind
use Rattle.rgo_core.specs.runs.Plans.{setup_of}
use Rattle.rgo_core_steps.specs.Ends.{ending, mark_of}
use Rattle.rgo_core_steps.specs.Seats.{settled}
use Rattle.rgo_core_steps.proofs.clock.finish.Given as goal

abbrev pub ghosts-fetch_or : goal.ghosts-fetch_or
ghosts-fetch_or a = record {
  kind = kind.EndRun;
  tells = λ n d. d ≡ ending (setup_of a.table.now.shared.key).code (settled (setup_of a.table.now.shared.key) a._about.now.1 a.seat.now.me) n (mark_of a._about.now.0);
}
