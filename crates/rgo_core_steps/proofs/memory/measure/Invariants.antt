use Rattle.std.proofs.Common.{◌≡◌}
use Rattle.rgo_core.specs.moves.Cells.{measures}
use Rattle.rgo_core.specs.ties.Bounds.{LieInPages, slice_words}
use Rattle.rgo_core.specs.Rule.declared.accesses.Kind.TheVariants as kind
use Rattle.rgo_core.specs.runs.Plans.{setup_of}
use Rattle.rgo_core_steps.specs.Seats.{settled}
use Rattle.rgo_core_steps.proofs.memory.measure.Given as goal

abbrev pub ghosts-load : goal.ghosts-load
ghosts-load a =
    let T = setup_of a.table.now.shared.key in
    let c = settled T a._about.now.1 a.seat.now.me in
    record { kind = kind.Load; tells = λ n d. (d ≡ measures c a._about.now.0 n) × LieInPages T a._about.now.0 (slice_words T n) }
