use Rattle.std.proofs.Common.{◌≡◌}
use Rattle.rgo_core_steps.specs.Pages.{tries_page}
use Rattle.rgo_core.specs.Rule.declared.accesses.Kind.TheVariants as kind
use Rattle.rgo_core.specs.runs.Plans.{setup_of}
use Rattle.rgo_core_steps.specs.Seats.{settled}
use Rattle.rgo_core_steps.proofs.pages.claim.Given as goal

abbrev pub ghosts-compare_exchange : goal.ghosts-compare_exchange
ghosts-compare_exchange a =
    let T = setup_of a.table.now.shared.key in
    let c = settled T a._about.now.2 a.seat.now.me in
    record { kind = kind.ClaimPage; tells = λ n d. d ≡ tries_page T c a._about.now.0 a._about.now.1 n }
