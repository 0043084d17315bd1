use Rattle.rgo_core_steps.specs.Counts.{Leaving}
use Rattle.rgo_core.specs.Rule.declared.accesses.Kind.TheVariants as kind
use Rattle.rgo_core.specs.runs.Plans.{setup_of}
use Rattle.rgo_core_steps.specs.Seats.{settled}
use Rattle.rgo_core_steps.proofs.counts.leave.Given as goal

abbrev pub ghosts-fetch_sub : goal.ghosts-fetch_sub
ghosts-fetch_sub a =
    let T = setup_of a.table.now.shared.key in
    let c = settled T a._about.now.1 a.seat.now.me in
    record { kind = kind.LeaveRegion; tells = Leaving c a._about.now.0 }
