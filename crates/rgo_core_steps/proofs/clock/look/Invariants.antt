use Rattle.std.proofs.Common.{◌≡◌}
use Rattle.rgo_core.specs.Rule.declared.accesses.Kind.TheVariants as kind
use Rattle.rgo_core.specs.runs.Plans.{setup_of}
use Rattle.rgo_core.specs.Records.{looked}
use Rattle.rgo_core_steps.specs.Seats.{settled}
use Rattle.rgo_core_steps.proofs.clock.look.Given as goal

abbrev pub ghosts-load : goal.ghosts-load
ghosts-load a = record {
  kind = kind.Load;
  tells = λ n d. d ≡ looked (settled (setup_of a.table.now.shared.key) a._about.now a.seat.now.me);
}
