use Rattle.std.proofs.Common.{◌≡◌, drop}
use Rattle.rgo_typing_rules.specs.Builtins.{named}
use Rattle.rgo_typing_rules.proofs.builtins.named.Given as goal

abbrev pub invariant-loop-builtin : goal.invariant-loop-builtin
invariant-loop-builtin l = named (drop l.builtin-index l.builtins) l.name ≡ named l.builtins l.name
