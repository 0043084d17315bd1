use Rattle.std.proofs.Common.{◌≡◌}
use Rattle.rgo_core.specs.Rule.declared.accesses.Kind.TheVariants as kind
use Rattle.rgo_core.specs.runs.Plans.{setup_of}
use Rattle.rgo_core_steps.specs.After.{printing}
use Rattle.rgo_core_steps.specs.Seats.{settled}
use Rattle.rgo_core_steps.proofs.clock.ticket.Given as goal

abbrev pub ghosts-fetch_add : goal.ghosts-fetch_add
ghosts-fetch_add a = record {
  kind = kind.DrawTicket;
  tells = λ n d. d ≡ printing (setup_of a.table.now.shared.key).code (settled (setup_of a.table.now.shared.key) a._about.now.1 a.seat.now.me) n;
}
