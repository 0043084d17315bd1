use Rattle.std.proofs.Common.{◌≡◌, drop}
use Rattle.rgo_typing_rules.specs.Views.{type_of_kind}
use Rattle.rgo_typing_packages.specs.Names.{with_names}
use Rattle.rgo_typing_packages.proofs.names.add_names.Given as goal

abbrev pub invariant-loop-x : goal.invariant-loop-x
invariant-loop-x l =
    with_names (type_of_kind l.kind) l.scope (drop l.x-index l.names) ≡ with_names (type_of_kind l.kind) l.initial.scope l.names
