use Rattle.std.proofs.Common.{◌≡◌}
use Rattle.rgo_core_rule.specs.Views.{record_of}
use Rattle.rgo_core_rule.specs.declared.accesses.Kind.TheVariants as kind
use Rattle.rgo_core.specs.runs.Opening.{first_of}
use Rattle.rgo_core.specs.Records.{looked}
use Rattle.rgo_core.proofs.table.look.Given as goal

abbrev pub ghosts-load : goal.ghosts-load
ghosts-load a = record { kind = kind.Load; tells = λ n d. d ≡ looked (record_of (first_of a.table.now.shared.key.code.value) a.seat.now.me) }
