use Rattle.std.proofs.Common.{◌≡◌, ◌<◌, ◌≤◌}
use Rattle.rgo_core.specs.Rule.declared.accesses.Kind.TheVariants as kind
use Rattle.rgo_sound.specs.Machine.Limits.{most_goroutines}
use Rattle.rgo_core.specs.runs.Plans.{setup_of}
use Rattle.rgo_core_steps.specs.After.{child, starting}
use Rattle.rgo_core_steps.specs.Seats.{settled}
use Rattle.rgo_core_steps.specs.Starts.{refusing}
use Rattle.rgo_core_steps.proofs.numbers.number.Given as goal

abbrev pub ghosts-fetch_add_start : goal.ghosts-fetch_add_start
ghosts-fetch_add_start a = record {
  kind = kind.DrawNumber;
  tells = λ n d. (most_goroutines (setup_of a.table.now.shared.key).limits ≤ n) × (d ≡ refusing (settled (setup_of a.table.now.shared.key) a._about.now a.seat.now.me));
  tells_child = λ n d e. (n < most_goroutines (setup_of a.table.now.shared.key).limits)
      × (d ≡ starting (setup_of a.table.now.shared.key).code (settled (setup_of a.table.now.shared.key) a._about.now a.seat.now.me) n)
      × (e ≡ child (setup_of a.table.now.shared.key).code (settled (setup_of a.table.now.shared.key) a._about.now a.seat.now.me));
}
