use Rattle.rgo_core.specs.Rule.declared.accesses.Kind.TheVariants as kind
use Rattle.rgo_core.specs.runs.Plans.{setup_of}
use Rattle.rgo_core_steps.specs.Channels.{ShowsCapacity}
use Rattle.rgo_core_steps.specs.Seats.{settled}
use Rattle.rgo_core_steps.proofs.channels.capacity.Given as goal

abbrev pub ghosts-load : goal.ghosts-load
ghosts-load a =
    let T = setup_of a.table.now.shared.key in
    let c = settled T a._about.now.0 a.seat.now.me in
    record { kind = kind.Load; tells = ShowsCapacity T c a._about.now.1 }
