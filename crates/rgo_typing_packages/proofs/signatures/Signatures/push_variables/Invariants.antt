use Rattle.std.proofs.Common.{◌≡◌, drop}
use Rattle.rgo_typing_rules.specs.Views.{type_of_kind}
use Rattle.rgo_typing_packages.specs.Signatures.{with_variables}
use Rattle.rgo_typing_packages.specs.Views.{signatures_of}
use Rattle.rgo_typing_packages.proofs.signatures.Signatures.push_variables.Given as goal

abbrev pub invariant-loop-x : goal.invariant-loop-x
invariant-loop-x l =
    with_variables (signatures_of l.self) (type_of_kind l.kind) (drop l.x-index l.names)
    ≡ with_variables (signatures_of l.initial.self) (type_of_kind l.kind) l.names
