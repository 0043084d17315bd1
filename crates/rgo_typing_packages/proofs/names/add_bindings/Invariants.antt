use Rattle.std.proofs.Common.{◌≡◌, map, drop}
use Rattle.rgo_ast.specs.Views.{binding_of}
use Rattle.rgo_typing_packages.specs.Names.{with_bindings}
use Rattle.rgo_typing_packages.proofs.names.add_bindings.Given as goal

abbrev pub invariant-loop-binding : goal.invariant-loop-binding
invariant-loop-binding l =
    with_bindings l.top l.scope (map binding_of (drop l.binding-index l.bindings))
    ≡ with_bindings l.top l.initial.scope (map binding_of l.bindings)
