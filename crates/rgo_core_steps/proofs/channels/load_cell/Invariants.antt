use Rattle.std.proofs.Common.{◌≡◌}
use Rattle.rgo_core.specs.Rule.declared.accesses.Kind.TheVariants as kind
use Rattle.rgo_core.specs.runs.Plans.{setup_of}
use Rattle.rgo_core.specs.ties.AtChannels.{knows}
use Rattle.rgo_core.specs.Channels.Records.{Read, with_hold}
use Rattle.rgo_core_steps.specs.Channels.{found_by}
use Rattle.rgo_core_steps.specs.Seats.{mine}
use Rattle.rgo_core_steps.proofs.channels.load_cell.Given as goal

abbrev pub ghosts-load : goal.ghosts-load
ghosts-load a =
    let T = setup_of a.table.now.shared.key in
    let c = mine T a.seat.now.me in
    record { kind = kind.LoadCell; tells = λ n d. d ≡ knows c (with_hold c.side (Read a._about.now.0 (found_by c.side.hold) a._about.now.1 n)) }
