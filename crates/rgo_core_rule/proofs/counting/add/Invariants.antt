use Rattle.std.proofs.Common.{◌≡◌}
use Rattle.rgo_core_rule.specs.Counting.{added, new_adder}
use Rattle.rgo_core_rule.specs.Views.{record_of}
use Rattle.rgo_core_rule.specs.declared.accesses.Kind.TheVariants as kind
use Rattle.rgo_core_rule.proofs.counting.add.Given as goal

abbrev pub ghosts-fetch_add : goal.ghosts-fetch_add
ghosts-fetch_add a = record { kind = kind.DrawTicket; tells = λ n d. d ≡ added (record_of new_adder a.seat.now.me) }
