use Rattle.std.proofs.Common.{◌≡◌}
use Rattle.rgo_core.specs.Rule.declared.accesses.Kind.TheVariants as kind
use Rattle.rgo_core.specs.runs.Plans.{setup_of}
use Rattle.rgo_core_steps.specs.After.{committing}
use Rattle.rgo_core_steps.specs.Seats.{mine}
use Rattle.rgo_core_steps.proofs.channels.commit_send.Given as goal

abbrev pub ghosts-store : goal.ghosts-store
ghosts-store a =
    let T = setup_of a.table.now.shared.key in
    let c = mine T a.seat.now.me in
    record { kind = kind.Commit; tells = λ n d. d ≡ committing T.code c 0 }
