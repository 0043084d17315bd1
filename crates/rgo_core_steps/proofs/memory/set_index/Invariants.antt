use Rattle.std.proofs.Common.{◌≡◌}
use Rattle.rgo_core_steps.specs.Making.{NewPointsApart, filling_apart}
use Rattle.rgo_core.specs.Rule.declared.accesses.Kind.TheVariants as kind
use Rattle.rgo_core.specs.runs.Plans.{setup_of}
use Rattle.rgo_core_steps.specs.Seats.{settled}
use Rattle.rgo_core_steps.proofs.memory.set_index.Given as goal

abbrev pub ghosts-store : goal.ghosts-store
ghosts-store a =
    let T = setup_of a.table.now.shared.key in
    let c = settled T a._about.now.1 a.seat.now.me in
    record { kind = kind.StoreIndex; tells = λ n d. (d ≡ filling_apart T c a._about.now.0) × NewPointsApart T c a._about.now.0 }
