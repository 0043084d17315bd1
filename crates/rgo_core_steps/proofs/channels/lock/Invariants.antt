use Rattle.std.proofs.Common.{◌≡◌}
use Rattle.rgo_core.specs.Rule.declared.accesses.Kind.TheVariants as kind
use Rattle.rgo_core.specs.runs.Plans.{setup_of}
use Rattle.rgo_core.specs.ties.AtChannels.{knows}
use Rattle.rgo_core.specs.Channels.Records.{with_lock}
use Rattle.rgo_core_steps.specs.Seats.{mine}
use Rattle.rgo_core_steps.proofs.channels.lock.Given as goal

abbrev pub ghosts-compare_exchange : goal.ghosts-compare_exchange
ghosts-compare_exchange a =
    let T = setup_of a.table.now.shared.key in
    let c = mine T a.seat.now.me in
    record { kind = kind.LockChannel; tells = λ n d. d ≡ knows c (with_lock c.side a.word a.old n) }
