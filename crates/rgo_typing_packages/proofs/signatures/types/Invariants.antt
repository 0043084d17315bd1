use Rattle.std.proofs.Common.{◌≡◌, ◌++◌, map, drop}
use Rattle.rgo_typing_rules.specs.Views.{type_of_kind}
use Rattle.rgo_typing_packages.proofs.signatures.types.Given as goal

abbrev pub invariant-loop-kind : goal.invariant-loop-kind
invariant-loop-kind l =
    l.types.items ++ map type_of_kind (drop l.kind-index l.kinds) ≡ map type_of_kind l.kinds
