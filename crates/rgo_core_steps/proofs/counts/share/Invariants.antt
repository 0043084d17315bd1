use Rattle.std.proofs.Common.{◌≡◌}
use Rattle.rgo_core_steps.specs.Counts.{shared_record}
use Rattle.rgo_core.specs.Rule.declared.accesses.Kind.TheVariants as kind
use Rattle.rgo_core.specs.runs.Plans.{setup_of}
use Rattle.rgo_core_steps.specs.Seats.{settled}
use Rattle.rgo_core_steps.proofs.counts.share.Given as goal

abbrev pub ghosts-fetch_add : goal.ghosts-fetch_add
ghosts-fetch_add a =
    let T = setup_of a.table.now.shared.key in
    let c = settled T a._about.now a.seat.now.me in
    record { kind = kind.ShareRegion; tells = λ n d. d ≡ shared_record c }
