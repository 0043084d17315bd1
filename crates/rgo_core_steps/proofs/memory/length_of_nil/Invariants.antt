use Rattle.std.proofs.Common.{◌≡◌}
use Rattle.rgo_core.specs.Rule.declared.accesses.Kind.TheVariants as kind
use Rattle.rgo_core.specs.runs.Plans.{setup_of}
use Rattle.rgo_core_steps.specs.After.{acting}
use Rattle.rgo_core_steps.specs.Seats.{settled}
use Rattle.rgo_core_steps.proofs.memory.length_of_nil.Given as goal

abbrev pub ghosts-load : goal.ghosts-load
ghosts-load a =
    let T = setup_of a.table.now.shared.key in
    let c = settled T a._about.now a.seat.now.me in
    record { kind = kind.Load; tells = λ n d. d ≡ acting T.code c 0 }
